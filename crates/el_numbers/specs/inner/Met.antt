-- What was found of intersections in the rows. (Own.)
use Rattle.std.specs.Prelude.{ℕ, ◌&&◌, Bool, List, nat_eq, take, unwrap_or}
use Rattle.indexmap.specs.IndexMap.{get}
use Rattle.fact_rows.specs.Member.{In}
use Rattle.fact_rows.specs.Rows.{row}
use Rattle.el_numbers.specs.declared.met.Met.{Met}

abbrev pub same_pair : ℕ × ℕ → ℕ × ℕ → Bool
same_pair p q = nat_eq p.0 q.0 && nat_eq p.1 q.1

-- how many operands of a, from the first on, were found in the row of c
abbrev pub known : Met → ℕ → ℕ → ℕ
known met c a = unwrap_or (get same_pair met.counts (c, a)) 0

-- those operands stand in the row
abbrev pub IsMet : List (List ℕ) → List (List ℕ) → Met → Type 0
IsMet operands below met = (c a x : ℕ) → In x (take (known met c a) (row operands a)) → In x (row below c)
