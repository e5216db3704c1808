-- Names put behind one another, by the layers of an expression.
use Rattle.std.proofs.Common.{◌≡◌, ℕ, ◌+◌, true, false, List, [], ◌∷◌, ◌++◌, flat_map, refl, sym, ap, ◌∙◌, take, slice_get, Some, add-one}
use Rattle.owl_axioms.proofs.Adding.{append_none, flat_append, take_suc}
use Rattle.owl_axioms.proofs.Listed.{names_layer}
use Rattle.owl_axioms.specs.Names.{is_signed, names_in, names_step, subject_names}
use Rattle.owl_axioms.specs.declared.expr.ClassExpr.{ClassExpr}
use Rattle.owl_axioms.specs.declared.expr.ClassExpr.TheOpen.{ClassExpr-F}
use Rattle.owl_axioms.specs.declared.expr.ClassExpr.TheFolds.{map-ClassExpr}
use Rattle.owl_axioms.specs.declared.expr.ClassExpr.TheViews.{roll-ClassExpr}
use Rattle.owl_axioms.specs.declared.name.Name.{Name}
use Rattle.module_extract.specs.inner.Naming.{pushed}

pub pushed_layer : (s : List Name) (c : ClassExpr) (x : ClassExpr-F ClassExpr) → c ≡ roll-ClassExpr x → pushed s (names_in c) ≡ pushed s (names_step (map-ClassExpr _ _ names_in x))
pushed_layer s c x h = ap (λ d. pushed s (names_in d)) h ∙ ap (pushed s) (names_layer x)

pub pushed_append : (s : List Name) (xs ys : List Name) → pushed s (xs ++ ys) ≡ pushed (pushed s xs) ys
unfolding pushed
pushed_append s [] ys = refl
pushed_append s (x ∷ xs) ys = pushed_append (s ++ x ∷ []) xs ys

pub pushed_next : {X : Type 0} (g : X → List Name) (s : List Name) (xs : List X) (i : ℕ) (x : X) → slice_get xs i ≡ Some x → pushed s (flat_map g (take (i + 1) xs)) ≡ pushed (pushed s (flat_map g (take i xs))) (g x)
pushed_next g s xs i x h =
    ap (λ k. pushed s (flat_map g (take k xs))) (add-one i) ∙ ap (λ ys. pushed s (flat_map g ys)) (take_suc xs i x h) ∙ ap (pushed s) (flat_append g (take i xs) (x ∷ []) ∙ ap (λ ws. flat_map g (take i xs) ++ ws) (append_none (g x)))
    ∙ pushed_append s (flat_map g (take i xs)) (g x)

assoc : (a b c : List Name) → (a ++ b) ++ c ≡ a ++ (b ++ c)
assoc [] b c = refl
assoc (x ∷ a) b c = ap (λ ws. x ∷ ws) (assoc a b c)

pub pushed_is : (s ns : List Name) → pushed s ns ≡ s ++ ns
unfolding pushed
pushed_is s [] = sym (append_none s)
pushed_is s (n ∷ ns) = pushed_is (s ++ n ∷ []) ns ∙ assoc s (n ∷ []) ns

pub pushed_signed : (s : List Name) (n : Name) → is_signed n.kind n.iri ≡ true → pushed s (subject_names n) ≡ s ++ n ∷ []
unfolding pushed
pushed_signed s n h = rw h refl

pub pushed_unsigned : (s : List Name) (n : Name) → is_signed n.kind n.iri ≡ false → pushed s (subject_names n) ≡ s
unfolding pushed
pushed_unsigned s n h = rw h refl
