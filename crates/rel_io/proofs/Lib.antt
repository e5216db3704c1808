pub mod Counts
pub mod Files
pub mod Lists
pub mod Options
pub mod Texts
