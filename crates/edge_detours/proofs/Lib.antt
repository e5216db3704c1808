pub mod EdgeRows
pub mod DetourLemmas
pub mod RankLemmas
pub mod RootLemmas
pub mod WalkLemmas
pub mod KeepLemmas
