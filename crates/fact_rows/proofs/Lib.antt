pub mod Members
pub mod RowLemmas
pub mod Places
pub mod MarkLemmas
pub mod Repeats
