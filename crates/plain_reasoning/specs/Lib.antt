pub mod Edges
pub mod Facts
pub mod Laws
pub mod Occurring
pub mod Reason
pub mod Unsatisfiable
pub mod Uses
