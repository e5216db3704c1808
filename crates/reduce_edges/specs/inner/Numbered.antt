-- Edges between numbers that stand for those between classes. (Own.)
use Rattle.std.specs.Prelude.{ℕ, ◌≡◌, List, Option, Some, map, slice_get}
use Rattle.reduce_edges.specs.Edges.{Pair}

-- the names that two numbers stand for
abbrev pub named : List (List ℕ) → ℕ × ℕ → Option (List ℕ) × Option (List ℕ)
named names e = (slice_get names e.0, slice_get names e.1)

abbrev pub both_some : Pair → Option (List ℕ) × Option (List ℕ)
both_some pair = (Some pair.0, Some pair.1)

-- the edges between numbers are these edges between names, in the same order
abbrev pub StandFor : List (List ℕ) → List (ℕ × ℕ) → List Pair → Type 0
StandFor names edges pairs = map (named names) edges ≡ map both_some pairs

-- no name has two numbers
abbrev pub AreApart : List (List ℕ) → Type 0
AreApart names = (m n : ℕ) (a : List ℕ) → slice_get names m ≡ Some a → slice_get names n ≡ Some a → m ≡ n

-- the names that had numbers have the same ones
abbrev pub AreMore : List (List ℕ) → List (List ℕ) → Type 0
AreMore before after = (n : ℕ) (a : List ℕ) → slice_get before n ≡ Some a → slice_get after n ≡ Some a
