pub mod Escape
pub mod Split
pub mod Id
pub mod Candidate
pub mod Ontology
pub mod Laws
