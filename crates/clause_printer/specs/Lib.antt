pub mod Laws
pub mod Printing
