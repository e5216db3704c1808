pub mod Lists
pub mod PartLemmas
pub mod PoolLemmas
pub mod ProperLemmas
pub mod SameCell
pub mod VisitLemmas
