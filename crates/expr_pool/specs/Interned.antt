-- What interning a tree does to a pool. (Own.)
use Rattle.std.specs.Prelude.{ℕ, ◌≡◌, ◌+◌, ◌⊎◌, List, Some, length, slice_get}
use Rattle.owl_axioms.specs.declared.expr.ClassExpr.{ClassExpr}
use Rattle.expr_pool.specs.Part.{Inside}

-- the tree has a node
abbrev pub HasNode : List ClassExpr → ClassExpr → Type 0
HasNode trees t = (i : ℕ) × (slice_get trees i ≡ Some t)

-- what is new is the tree or stands in it
abbrev pub AddsInside : List ClassExpr → ClassExpr → List ClassExpr → Type 0
AddsInside old tree new = (t : ClassExpr) → HasNode new t → HasNode old t ⊎ Inside tree t

-- nothing is new, or the place is the last one
abbrev pub IsLastOrKnown : List ClassExpr → List ClassExpr → ℕ → Type 0
IsLastOrKnown old new place = (new ≡ old) ⊎ (length new ≡ place + 1)
