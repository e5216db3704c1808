pub mod OrderLemmas
pub mod MarkingLemmas
pub mod WritingLemmas
