pub mod Order
pub mod PlainGroups
pub mod Rows
pub mod Sides
pub mod Spelled
