pub mod Edges
pub mod Marks
