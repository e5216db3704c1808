pub mod Digits
pub mod Generated
pub mod Seed
