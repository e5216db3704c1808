pub mod Clashes
pub mod Faults
pub mod inner
