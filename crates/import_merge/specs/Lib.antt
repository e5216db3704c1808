pub mod Laws
pub mod Merged
pub mod Notes
pub mod inner
