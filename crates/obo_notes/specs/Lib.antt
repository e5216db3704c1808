pub mod Context
pub mod Forms
pub mod Keys
pub mod Laws
pub mod Notes
pub mod Parts
pub mod Vocabulary
pub mod inner
