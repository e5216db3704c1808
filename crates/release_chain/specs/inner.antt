pub mod Counting
pub mod Finish
pub mod Generating
pub mod Inference
pub mod Names
pub mod Texts
pub mod Work
