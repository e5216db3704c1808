pub mod Kinds
pub mod Laws
pub mod Sorted
pub mod Text
pub mod inner
