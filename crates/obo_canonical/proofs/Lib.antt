mod HeaderLemmas
mod KeptLemmas
pub mod LawLemmas
pub mod NormBare
pub mod NormOfSet
mod PartLemmas
mod ToldParts
