pub mod BackNormal
pub mod MissingLemmas
pub mod ReadsAgain
