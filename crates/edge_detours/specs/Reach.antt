-- Edges between numbers, and what is reached along them. (Reachability in a directed graph.)
use Rattle.std.specs.Prelude.{ℕ, ◌<◌, List}
use Rattle.fact_rows.specs.Member.{In}

-- an edge leads from its first number to its second
abbrev pub Edges : Type 0
Edges = List (ℕ × ℕ)

-- there is a walk of zero or more edges
pub data Reach (es : Edges) : ℕ → ℕ → Type 0 where
  stay : {a : ℕ} → Reach es a a
  go : {a b c : ℕ} → In (a, b) es → Reach es b c → Reach es a c

-- both ends of each edge are below n
abbrev pub AreWithin : ℕ → Edges → Type 0
AreWithin n es = (a c : ℕ) → In (a, c) es → (a < n) × (c < n)
