-- The test of ranks: from a root of each rank its nodes are reached, along the edges and along the edges turned round.
-- (Own.)
use Rattle.std.specs.Prelude.{◌≡◌, ℕ, ◌<◌, Bool, List, length, ◌⊎◌}
use Rattle.fact_rows.specs.Member.{In}
use Rattle.fact_rows.specs.Marks.{IsFlagged}
use Rattle.edge_detours.specs.inner.Rows.{Rows, Walk}
use Rattle.edge_detours.specs.inner.Ranks.{rank}

-- each node is reached from the root of its rank
abbrev pub AreFromRoots : Rows → List ℕ → List ℕ → Type 0
AreFromRoots rows ranks roots = (x : ℕ) → x < length ranks → Walk rows (rank roots (rank ranks x)) x

-- one node may be flagged and wait
pub record Admits (y : ℕ) (old new : List Bool) (before after : List ℕ) : Type 0 where
  pub flags : (z : ℕ) → IsFlagged new z → IsFlagged old z ⊎ (z ≡ y)
  pub stack : (z : ℕ) → In z after → In z before ⊎ (z ≡ y)

-- of the targets those of the rank of x may be flagged and wait
pub record ReachesSame (ts : List (ℕ × ℕ)) (ranks : List ℕ) (x : ℕ) (old new : List Bool) (before after : List ℕ) : Type 0 where
  pub flags : (z : ℕ) → IsFlagged new z → IsFlagged old z ⊎ ((i : ℕ) × In (z, i) ts × (rank ranks z ≡ rank ranks x))
  pub stack : (z : ℕ) → In z after → In z before ⊎ ((i : ℕ) × In (z, i) ts × (rank ranks z ≡ rank ranks x))

-- what is flagged, and what waits, is reached from its root
pub record IsSpread (rows : Rows) (ranks roots : List ℕ) (flags : List Bool) (stack : List ℕ) : Type 0 where
  pub flagged : (x : ℕ) → IsFlagged flags x → Walk rows (rank roots (rank ranks x)) x
  pub waiting : (x : ℕ) → In x stack → Walk rows (rank roots (rank ranks x)) x
