pub mod Interned
pub mod Laws
pub mod Part
pub mod Pool
pub mod inner
