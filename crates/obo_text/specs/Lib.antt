pub mod Laws
pub mod Order
pub mod Text
pub mod inner
