pub mod KeyLemmas
pub mod OnceLemmas
pub mod PartLemmas
pub mod SetLemmas
pub mod SortedLemmas
