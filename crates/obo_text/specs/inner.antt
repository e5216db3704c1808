pub mod Names
pub mod RowOrder
pub mod RowState
pub mod Rows
