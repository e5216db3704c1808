pub mod Adding
pub mod Entries
pub mod Held
pub mod Keeping
pub mod Least
pub mod Sameness
