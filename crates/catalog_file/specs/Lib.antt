pub mod Catalog
pub mod Names
pub mod inner
