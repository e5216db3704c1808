mod BodyLemmas
pub mod LineLemmas
pub mod FeedingLemmas
pub mod LawLemmas
pub mod TokenLemmas
pub mod TextLemmas
pub mod WrittenLines
