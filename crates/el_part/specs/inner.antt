pub mod ClassMap
pub mod Made
pub mod Reached
