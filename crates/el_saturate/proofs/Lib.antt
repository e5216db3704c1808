pub mod CellLemmas
pub mod NumberLemmas
pub mod PartOver
pub mod RoleLemmas
pub mod SaturationLemmas
pub mod StepLemmas
pub mod TableLemmas
