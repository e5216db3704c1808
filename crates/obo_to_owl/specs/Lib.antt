pub mod Reports
pub mod Translated
pub mod inner
