pub mod Clauses
pub mod Homes
