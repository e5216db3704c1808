pub mod Examples
pub mod Interp
pub mod Laws
pub mod Models
