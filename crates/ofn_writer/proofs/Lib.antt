mod KindLemmas
mod ListLemmas
mod OrderLemmas
mod PartLemmas
mod PieceLemmas
mod SetLemmas
