-- Edges by their first end, each as its other end and its place. (Own.)
use Rattle.std.specs.Prelude.{◌≡◌, ℕ, ◌<◌, ◌≤◌, List, map, slice_get, Some}
use Rattle.fact_rows.specs.Member.{In}
use Rattle.fact_rows.specs.Rows.{row}
use Rattle.edge_detours.specs.Reach.{Edges}

abbrev pub Rows : Type 0
Rows = List (List (ℕ × ℕ))

-- the rows have exactly the edges
pub record AreRows (es : Edges) (rows : Rows) : Type 0 where
  pub to : (i a c : ℕ) → slice_get es i ≡ Some (a, c) → In (c, i) (row rows a)
  pub from : (i a c : ℕ) → In (c, i) (row rows a) → slice_get es i ≡ Some (a, c)

-- the edges turned round
abbrev pub swapped : Edges → Edges
swapped es = map (λ (e : ℕ × ℕ). (e.1, e.0)) es

-- there is a walk of zero or more edges of the rows
pub data Walk (rows : Rows) : ℕ → ℕ → Type 0 where
  rest : {a : ℕ} → Walk rows a a
  along : {a b c i : ℕ} → In (b, i) (row rows a) → Walk rows b c → Walk rows a c

-- no edge falls
abbrev pub IsRising : Rows → Type 0
IsRising rows = (a c i : ℕ) → In (c, i) (row rows a) → a ≤ c

-- each edge leads to a number below n
abbrev pub IsInside : ℕ → Rows → Type 0
IsInside n rows = (a c i : ℕ) → In (c, i) (row rows a) → c < n
