pub mod Counts
pub mod Depends
pub mod Keeps
pub mod Lists
pub mod Means
pub mod Evaluate
pub mod Tables
