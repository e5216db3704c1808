pub mod ClauseLemmas
pub mod DeclaredLemmas
pub mod HomeLemmas
pub mod OntologyLemmas
