mod ColumnLemmas
mod LineLemmas
