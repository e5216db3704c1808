pub mod Header
pub mod Settled
