-- What the definition of redundant edges amounts to. (Own.)
use Rattle.std.specs.Prelude.{ℕ, ◌⊎◌}
use Rattle.fact_rows.specs.Member.{In}
use Rattle.edge_detours.specs.Reach.{Edges, Reach, AreWithin}
use Rattle.edge_detours.specs.Redundant.{IsRedundant}

-- where each edge of es stands in fs or is redundant in es, what is reached along es is reached along fs
abbrev pub ReachIsKept : Type 0
ReachIsKept = (es fs : Edges) (n : ℕ) → AreWithin n es → ((a c : ℕ) → In (a, c) es → In (a, c) fs ⊎ IsRedundant es a c) → (a b : ℕ) → Reach es a b → Reach fs a b
