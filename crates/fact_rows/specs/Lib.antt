pub mod Marks
pub mod Member
pub mod Rows
