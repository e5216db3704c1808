-- What interning several trees does to a pool. (Own.)
use Rattle.std.specs.Prelude.{ℕ, ◌≡◌, ◌+◌, ◌⊎◌, List, [], ◌∷◌, Some, length, slice_get}
use Rattle.owl_axioms.specs.declared.expr.ClassExpr.{ClassExpr}
use Rattle.fact_rows.specs.Member.{In}
use Rattle.expr_pool.specs.Interned.{HasNode}
use Rattle.expr_pool.specs.Part.{Inside}

-- where all the trees are there nothing is new, and what is new is one of them or stands in one
pub record Visits (old trees new : List ClassExpr) : Type 0 where
  pub known : ((t : ClassExpr) → In t trees → HasNode old t) → new ≡ old
  pub only : (t : ClassExpr) → HasNode new t → HasNode old t ⊎ ((p : ClassExpr) × In p trees × Inside p t)

-- nothing is new, or the last tree is one of these
abbrev pub EndsWith : List ClassExpr → List ClassExpr → List ClassExpr → Type 0
EndsWith old trees new = (new ≡ old) ⊎ ((p : ClassExpr) × In p trees × (i : ℕ) × (slice_get new i ≡ Some p) × (length new ≡ i + 1))

-- the parts of a tree of one part
abbrev pub only_part : ClassExpr → List ClassExpr
only_part part = part ∷ []
