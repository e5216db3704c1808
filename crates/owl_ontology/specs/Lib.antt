pub mod Laws
pub mod Ontology
pub mod Origins
pub mod Same
