pub mod Keyed
pub mod Parts
pub mod Sets
pub mod Sorted
