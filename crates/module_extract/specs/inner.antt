pub mod Front
pub mod Naming
pub mod Setting
pub mod Work
