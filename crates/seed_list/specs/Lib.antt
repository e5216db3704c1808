pub mod Seed
pub mod Terms
pub mod inner
