pub mod Clashing
pub mod Collected
pub mod Order
