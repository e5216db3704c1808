pub mod Laws
pub mod Star
pub mod StarOf
