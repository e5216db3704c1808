pub mod Direct
pub mod Laws
pub mod Reason
pub mod Taxonomy
pub mod inner
