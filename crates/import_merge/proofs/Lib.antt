pub mod DecidingLemmas
pub mod FrameLemmas
pub mod MergeLemmas
pub mod MoveLemmas
pub mod PlaceLemmas
pub mod SpellingLemmas
