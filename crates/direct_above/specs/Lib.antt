pub mod Direct
pub mod inner
