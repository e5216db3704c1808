pub mod Extract
pub mod Known
pub mod Laws
