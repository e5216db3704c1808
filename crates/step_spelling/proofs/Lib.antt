pub mod Edges
pub mod Extracting
pub mod Flagged
pub mod Occurring
pub mod Reasoning
pub mod Reducing
pub mod Relaxing
pub mod Shipping
