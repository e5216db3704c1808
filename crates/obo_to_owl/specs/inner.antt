pub mod Rules
pub mod Saying
pub mod Rows
pub mod Known
pub mod Left
pub mod Adding
pub mod Grouping
pub mod Spacing
