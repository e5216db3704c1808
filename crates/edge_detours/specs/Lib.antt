pub mod Laws
pub mod Reach
pub mod Redundant
pub mod inner
