pub mod Adding
pub mod Least
pub mod Named
pub mod Numbers
