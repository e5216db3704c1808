pub mod Examples
pub mod Fill
pub mod Laws
pub mod Local
pub mod Verdict
