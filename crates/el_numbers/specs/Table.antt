-- A table of facts as a contract sees it. (Own.)
use Rattle.std.specs.Prelude.{ℕ, ◌+◌, List, length}
use Rattle.std.specs.List.{sum_by}
use Rattle.fact_rows.specs.Member.{In, NoRepeats}
use Rattle.fact_rows.specs.Rows.{row}
use Rattle.el_numbers.specs.declared.fact.Fact.{Fact}
use Rattle.el_numbers.specs.declared.fact.Fact.TheVariants.{Below, Link}

-- for each expression what it is below, and its links, each a role and an end
pub record TableState : Type 0 where
  pub below : List (List ℕ)
  pub links : List (List (ℕ × ℕ))

-- the table has the fact
abbrev pub Has : TableState → Fact → Type 0
Has t (Below c d) = In d (row t.below c)
Has t (Link c r d) = In (r, d) (row t.links c)

-- no fact stands there twice
pub record HasOnce (t : TableState) : Type 0 where
  pub below : (c : ℕ) → NoRepeats (row t.below c)
  pub links : (c : ℕ) → NoRepeats (row t.links c)

-- the number of facts
abbrev pub size : TableState → ℕ
size t = sum_by length t.below + sum_by length t.links

-- that c is below d, and that c has an r-link to d
abbrev pub below_fact : ℕ → ℕ → Fact
below_fact c d = Below c d

abbrev pub link_fact : ℕ → ℕ → ℕ → Fact
link_fact c r d = Link c r d
