mod LineLemmas
mod NameLemmas
