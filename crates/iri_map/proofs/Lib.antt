pub mod EscapeLemmas
pub mod SplitLemmas
pub mod ReadableLemmas
pub mod FormLemmas
pub mod UrlLemmas
pub mod CandidateLemmas
pub mod OntologyLemmas
pub mod LawLemmas
