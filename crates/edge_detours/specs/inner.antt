pub mod Detours
pub mod Flags
pub mod Ranks
pub mod Roots
pub mod Rows
pub mod Walks
