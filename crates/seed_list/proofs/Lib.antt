mod LineLemmas
mod SameLemmas
