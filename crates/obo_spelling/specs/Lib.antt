pub mod Homes
pub mod inner
