pub mod ForeignLemmas
pub mod TableLemmas
