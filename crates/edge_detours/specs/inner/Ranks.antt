-- Ranks: a number for each node, such that no edge falls and nodes of one rank reach one another. So the nodes of one
-- rank are one strongly connected component. (Own.)
use Rattle.std.specs.Prelude.{◌≡◌, ℕ, ◌<◌, ◌≤◌, List, length, map, slice_index_or}
use Rattle.fact_rows.specs.Member.{In}
use Rattle.edge_detours.specs.Reach.{Edges, Reach}

-- the rank of a node, 0 past the last
abbrev pub rank : List ℕ → ℕ → ℕ
rank ranks x = slice_index_or ranks x 0

pub record AreRanks (es : Edges) (n : ℕ) (ranks : List ℕ) : Type 0 where
  pub long : length ranks ≡ n
  pub below : (x : ℕ) → x < n → rank ranks x < n
  pub rises : (a c : ℕ) → In (a, c) es → rank ranks a ≤ rank ranks c
  pub joined : (a b : ℕ) → a < n → b < n → rank ranks a ≡ rank ranks b → Reach es a b

-- the edges between the ranks of their ends, in the same places
abbrev pub ranked : List ℕ → Edges → Edges
ranked ranks es = map (λ (e : ℕ × ℕ). (rank ranks e.0, rank ranks e.1)) es
