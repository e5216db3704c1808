pub mod Implied
pub mod Laws
pub mod Relax
pub mod Relaxed
