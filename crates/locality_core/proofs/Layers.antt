-- What one layer of an expression says of its size and its verdict.
use Rattle.std.proofs.Common.{◌≡◌, ℕ, ◌<◌, ◌≤◌, ◌+◌, refl, ap, ◌∙◌, List, [], ◌∷◌, arith, zero, suc, Some, slice_get, Bool, true, false, ◌||◌, ◌&&◌, take, map, add-one}
use Rattle.std.specs.List.{list_any, list_all}
use Rattle.owl_axioms.specs.declared.expr.ClassExpr.{ClassExpr, out-ClassExpr, size-ClassExpr, size_is-ClassExpr}
use Rattle.owl_axioms.specs.declared.expr.ClassExpr.TheOpen as layer
use Rattle.owl_axioms.specs.declared.expr.ClassExpr.TheOpen.{ClassExpr-F}
use Rattle.owl_axioms.specs.declared.expr.ClassExpr.TheFolds.{fold_out-ClassExpr, map-ClassExpr}
use Rattle.locality_tables.specs.declared.fills.ClassFill.{ClassFill}
use Rattle.locality_tables.specs.declared.fills.RoleFill.{RoleFill}
use Rattle.locality_tables.specs.declared.finding.Finding.{Finding}
use Rattle.owl_axioms.specs.Names.{Scope}
use Rattle.locality_tables.specs.Verdict.{verdict, verdict_step}
use denote.Param.Weighed.{most}

pub size_not : (c d : ClassExpr) → out-ClassExpr c ≡ layer.Not d → size-ClassExpr d < size-ClassExpr c
size_not c d h = omega (arith, rw h at (size_is-ClassExpr c))

pub size_some : (c d : ClassExpr) (r : List ℕ) → out-ClassExpr c ≡ layer.Some r d → size-ClassExpr d < size-ClassExpr c
size_some c d r h = omega (arith, rw h at (size_is-ClassExpr c))

pub size_all : (c d : ClassExpr) (r : List ℕ) → out-ClassExpr c ≡ layer.All r d → size-ClassExpr d < size-ClassExpr c
size_all c d r h = omega (arith, rw h at (size_is-ClassExpr c))

pub size_min : (c d : ClassExpr) (n : ℕ) (r : List ℕ) → out-ClassExpr c ≡ layer.Min n r d → size-ClassExpr d < size-ClassExpr c
size_min c d n r h = omega (arith, rw h at (size_is-ClassExpr c))

pub size_max : (c d : ClassExpr) (n : ℕ) (r : List ℕ) → out-ClassExpr c ≡ layer.Max n r d → size-ClassExpr d < size-ClassExpr c
size_max c d n r h = omega (arith, rw h at (size_is-ClassExpr c))

pub size_exact : (c d : ClassExpr) (n : ℕ) (r : List ℕ) → out-ClassExpr c ≡ layer.Exact n r d → size-ClassExpr d < size-ClassExpr c
size_exact c d n r h = omega (arith, rw h at (size_is-ClassExpr c))

-- no item's size is above the most
within_most : (f : ClassExpr → ℕ) (cs : List ClassExpr) (i : ℕ) (d : ClassExpr) → slice_get cs i ≡ Some d → f d ≤ most f cs
within_most f [] i d h = cc
within_most f (c ∷ cs) zero d h = let same : c ≡ d = cc in let e = ap f same in omega arith
within_most f (c ∷ cs) (suc i) d h = let rest : f d ≤ most f cs = within_most f cs i d h in omega arith

pub size_and : (c d : ClassExpr) (cs : List ClassExpr) (i : ℕ) → out-ClassExpr c ≡ layer.And cs → slice_get cs i ≡ Some d → size-ClassExpr d < size-ClassExpr c
size_and c d cs i h at = omega (arith, rw h at (size_is-ClassExpr c), within_most size-ClassExpr cs i d at)

pub size_or : (c d : ClassExpr) (cs : List ClassExpr) (i : ℕ) → out-ClassExpr c ≡ layer.Or cs → slice_get cs i ≡ Some d → size-ClassExpr d < size-ClassExpr c
size_or c d cs i h at = omega (arith, rw h at (size_is-ClassExpr c), within_most size-ClassExpr cs i d at)

pub verdict_at : (classes : ClassFill) (roles : RoleFill) (inside : Scope) (c : ClassExpr) (x : ClassExpr-F ClassExpr) → out-ClassExpr c ≡ x
    → verdict classes roles inside c ≡ verdict_step classes roles inside (map-ClassExpr _ _ (verdict classes roles inside) x)
unfolding verdict
verdict_at classes roles inside c x h =
    fold_out-ClassExpr Finding (verdict_step classes roles inside) c ∙ ap (λ y. verdict_step classes roles inside (map-ClassExpr _ _ (verdict classes roles inside) y)) h

-- one more operand
or_assoc : (x y z : Bool) → (x || (y || z)) ≡ ((x || y) || z)
or_assoc true y z = refl
or_assoc false y z = refl

and_assoc : (x y z : Bool) → (x && (y && z)) ≡ ((x && y) && z)
and_assoc true y z = refl
and_assoc false y z = refl

any_suc : {A : Type 0} (p : Finding → Bool) (v : A → Finding) (cs : List A) (i : ℕ) (d : A) → slice_get cs i ≡ Some d → list_any p (map v (take (suc i) cs)) ≡ (list_any p (map v (take i cs)) || p (v d))
any_suc p v [] i d h = cc
any_suc p v (c ∷ cs) zero d h = let same : c ≡ d = cc in ap (λ x. p (v x) || false) same ∙ or_false (p (v d))
  where
    or_false : (b : Bool) → (b || false) ≡ b
    or_false true = refl
    or_false false = refl
any_suc p v (c ∷ cs) (suc i) d h = ap (λ b. p (v c) || b) (any_suc p v cs i d h) ∙ or_assoc (p (v c)) _ _

all_suc : {A : Type 0} (p : Finding → Bool) (v : A → Finding) (cs : List A) (i : ℕ) (d : A) → slice_get cs i ≡ Some d → list_all p (map v (take (suc i) cs)) ≡ (list_all p (map v (take i cs)) && p (v d))
all_suc p v [] i d h = cc
all_suc p v (c ∷ cs) zero d h = let same : c ≡ d = cc in ap (λ x. p (v x) && true) same ∙ and_true (p (v d))
  where
    and_true : (b : Bool) → (b && true) ≡ b
    and_true true = refl
    and_true false = refl
all_suc p v (c ∷ cs) (suc i) d h = ap (λ b. p (v c) && b) (all_suc p v cs i d h) ∙ and_assoc (p (v c)) _ _

pub any_more : {A : Type 0} (p : Finding → Bool) (v : A → Finding) (cs : List A) (i : ℕ) (d : A) → slice_get cs i ≡ Some d → list_any p (map v (take (i + 1) cs)) ≡ (list_any p (map v (take i cs)) || p (v d))
any_more p v cs i d h = rw add-one (any_suc p v cs i d h)

pub all_more : {A : Type 0} (p : Finding → Bool) (v : A → Finding) (cs : List A) (i : ℕ) (d : A) → slice_get cs i ≡ Some d → list_all p (map v (take (i + 1) cs)) ≡ (list_all p (map v (take i cs)) && p (v d))
all_more p v cs i d h = rw add-one (all_suc p v cs i d h)
