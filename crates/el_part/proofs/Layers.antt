-- The test of EL expressions, of each kind of expression.
use Rattle.std.proofs.Common.{◌≡◌, ℕ, Bool, true, false, ◌&&◌, List, [], ◌∷◌, length, map, ap, sym, ◌∙◌, refl, suc, true≢false}
use Rattle.std.specs.List.{list_all}
use Rattle.std.specs.Prelude.{nat_le}
use Rattle.owl_axioms.specs.declared.expr.ClassExpr.{ClassExpr}
use Rattle.owl_axioms.specs.declared.expr.ClassExpr.TheFolds.{fold-roll-ClassExpr}
use Rattle.owl_axioms.specs.declared.expr.ClassExpr.TheOpen.{ClassExpr-F}
use Rattle.owl_axioms.specs.declared.expr.ClassExpr.TheVariants as expr
use Rattle.owl_axioms.specs.declared.expr.ClassExpr.TheViews.{out-ClassExpr, out-roll-ClassExpr, roll-ClassExpr}
use Rattle.el_rules.specs.ElPart.{el_step, is_el}

pub el_of_thing : is_el expr.Thing ≡ true
unfolding is_el el_step roll-ClassExpr denote.Hole.Carrier.roll
el_of_thing = fold-roll-ClassExpr Bool el_step ClassExpr-F.Thing

pub el_of_nothing : is_el expr.Nothing ≡ true
unfolding is_el el_step roll-ClassExpr denote.Hole.Carrier.roll
el_of_nothing = fold-roll-ClassExpr Bool el_step ClassExpr-F.Nothing

pub el_of_class : (iri : List ℕ) → is_el (expr.Class iri) ≡ true
unfolding is_el el_step roll-ClassExpr denote.Hole.Carrier.roll
el_of_class iri = fold-roll-ClassExpr Bool el_step (ClassExpr-F.Class iri)

tests : (es : List ClassExpr) → (nat_le 2 (length (map is_el es)) && list_all (λ part. part) (map is_el es)) ≡ (nat_le 2 (length es) && list_all is_el es)
tests es = λ i. nat_le 2 (same_length es i) && same_all es i
  where
    same_length : (es : List ClassExpr) → length (map is_el es) ≡ length es
    same_length [] = refl
    same_length (e ∷ es) = ap suc (same_length es)

    same_all : (es : List ClassExpr) → list_all (λ part. part) (map is_el es) ≡ list_all is_el es
    same_all [] = refl
    same_all (e ∷ es) = ap (λ b. is_el e && b) (same_all es)

pub el_of_and : (es : List ClassExpr) → is_el (expr.And es) ≡ (nat_le 2 (length es) && list_all is_el es)
unfolding is_el el_step roll-ClassExpr denote.Hole.Carrier.roll
el_of_and es = fold-roll-ClassExpr Bool el_step (ClassExpr-F.And es) ∙ tests es

pub el_of_or : (es : List ClassExpr) → is_el (expr.Or es) ≡ false
unfolding is_el el_step roll-ClassExpr denote.Hole.Carrier.roll
el_of_or es = fold-roll-ClassExpr Bool el_step (ClassExpr-F.Or es)

pub el_of_not : (e : ClassExpr) → is_el (expr.Not e) ≡ false
unfolding is_el el_step roll-ClassExpr denote.Hole.Carrier.roll
el_of_not e = fold-roll-ClassExpr Bool el_step (ClassExpr-F.Not e)

pub el_of_some : (r : List ℕ) (e : ClassExpr) → is_el (expr.Some r e) ≡ is_el e
unfolding is_el el_step roll-ClassExpr denote.Hole.Carrier.roll
el_of_some r e = fold-roll-ClassExpr Bool el_step (ClassExpr-F.Some r e)

pub el_of_all : (r : List ℕ) (e : ClassExpr) → is_el (expr.All r e) ≡ false
unfolding is_el el_step roll-ClassExpr denote.Hole.Carrier.roll
el_of_all r e = fold-roll-ClassExpr Bool el_step (ClassExpr-F.All r e)

pub el_of_min : (n : ℕ) (r : List ℕ) (e : ClassExpr) → is_el (expr.Min n r e) ≡ false
unfolding is_el el_step roll-ClassExpr denote.Hole.Carrier.roll
el_of_min n r e = fold-roll-ClassExpr Bool el_step (ClassExpr-F.Min n r e)

pub el_of_max : (n : ℕ) (r : List ℕ) (e : ClassExpr) → is_el (expr.Max n r e) ≡ false
unfolding is_el el_step roll-ClassExpr denote.Hole.Carrier.roll
el_of_max n r e = fold-roll-ClassExpr Bool el_step (ClassExpr-F.Max n r e)

pub el_of_exact : (n : ℕ) (r : List ℕ) (e : ClassExpr) → is_el (expr.Exact n r e) ≡ false
unfolding is_el el_step roll-ClassExpr denote.Hole.Carrier.roll
el_of_exact n r e = fold-roll-ClassExpr Bool el_step (ClassExpr-F.Exact n r e)

-- two names, and no other, are two
abbrev is_thing : ClassExpr-F ClassExpr → Bool
is_thing ClassExpr-F.Thing = true
is_thing _ = false

pub thing_is_not_nothing : expr.Thing ≡ expr.Nothing → ⊥
unfolding roll-ClassExpr denote.Hole.Carrier.roll
thing_is_not_nothing e = true≢false (sym (ap is_thing (out-roll-ClassExpr ClassExpr-F.Thing)) ∙ ap (λ t. is_thing (out-ClassExpr t)) e ∙ ap is_thing (out-roll-ClassExpr ClassExpr-F.Nothing))
