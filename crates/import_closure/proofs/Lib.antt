pub mod FeedLemmas
pub mod ReadLemmas
pub mod ListLemmas
mod OnceLemmas
pub mod LoadingLemmas
pub mod SourceLemmas
pub mod TurnLemmas
