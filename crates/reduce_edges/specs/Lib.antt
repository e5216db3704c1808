pub mod Edges
pub mod Going
pub mod Laws
pub mod Reduce
pub mod Redundant
pub mod inner
