pub mod Axioms
pub mod Back
pub mod Documents
pub mod Lines
pub mod Sound
pub mod TwoValues
