-- Adding the names of an expression, by its layers.
use Rattle.std.proofs.Common.{◌≡◌, ℕ, zero, suc, ◌+◌, ◌<◌, List, [], ◌∷◌, ◌++◌, flat_map, map, refl, sym, ap, ◌∙◌, take, slice_get, Some, add-one, length, ◌≤◌, true, false, arith, slice_index_or}
use Rattle.owl_axioms.specs.declared.expr.ClassExpr.{ClassExpr}
use Rattle.rel_io.proofs.Options.{none_there, same_there}
use Rattle.owl_axioms.specs.declared.expr.ClassExpr.TheOpen.{ClassExpr-F}
use Rattle.owl_axioms.specs.declared.expr.ClassExpr.TheFolds.{map-ClassExpr}
use Rattle.owl_axioms.specs.declared.expr.ClassExpr.TheViews.{roll-ClassExpr}
use Rattle.owl_axioms.specs.declared.name.Name.{Name}
use Rattle.owl_axioms.specs.Names.{is_signed, names_in, names_step, subject_names}
use Rattle.owl_axioms.proofs.Listed.{names_layer}
use Rattle.owl_axioms.specs.Signature.{SigState, add_name, added}

-- the names of a layer
pub added_layer : (s : SigState) (c : ClassExpr) (x : ClassExpr-F ClassExpr) → c ≡ roll-ClassExpr x → added s (names_in c) ≡ added s (names_step (map-ClassExpr _ _ names_in x))
added_layer s c x h = ap (λ d. added s (names_in d)) h ∙ ap (added s) (names_layer x)

pub added_append : (s : SigState) (xs ys : List Name) → added s (xs ++ ys) ≡ added (added s xs) ys
unfolding added
added_append s [] ys = refl
added_append s (x ∷ xs) ys = added_append (add_name s x.kind x.iri) xs ys

pub take_suc : {X : Type 0} (xs : List X) (i : ℕ) (x : X) → slice_get xs i ≡ Some x → take (suc i) xs ≡ take i xs ++ x ∷ []
take_suc [] i x h = absurd (none_there h)
take_suc (y ∷ xs) zero x h = ap (λ w. w ∷ []) (same_there h)
take_suc (y ∷ xs) (suc i) x h = ap (λ ws. y ∷ ws) (take_suc xs i x h)

pub flat_append : {X Y : Type 0} (g : X → List Y) (xs ys : List X) → flat_map g (xs ++ ys) ≡ flat_map g xs ++ flat_map g ys
flat_append g [] ys = refl
flat_append g (x ∷ xs) ys = ap (λ ws. g x ++ ws) (flat_append g xs ys) ∙ assoc (g x) (flat_map g xs) (flat_map g ys)
  where
    assoc : {Y : Type 0} (a b c : List Y) → a ++ (b ++ c) ≡ (a ++ b) ++ c
    assoc [] b c = refl
    assoc (x ∷ a) b c = ap (λ ws. x ∷ ws) (assoc a b c)

pub append_none : {Y : Type 0} (ys : List Y) → ys ++ [] ≡ ys
append_none [] = refl
append_none (y ∷ ys) = ap (λ ws. y ∷ ws) (append_none ys)

-- one more of a list of things that each add names
pub added_next : {X : Type 0} (g : X → List Name) (s : SigState) (xs : List X) (i : ℕ) (x : X) → slice_get xs i ≡ Some x → added s (flat_map g (take (i + 1) xs)) ≡ added (added s (flat_map g (take i xs))) (g x)
added_next g s xs i x h =
    ap (λ k. added s (flat_map g (take k xs))) (add-one i) ∙ ap (λ ys. added s (flat_map g ys)) (take_suc xs i x h) ∙ ap (added s) (flat_append g (take i xs) (x ∷ []) ∙ ap (λ ws. flat_map g (take i xs) ++ ws) (append_none (g x)))
    ∙ added_append s (flat_map g (take i xs)) (g x)

pub take_whole : {X : Type 0} (xs : List X) (n : ℕ) → length xs ≤ n → take n xs ≡ xs
take_whole [] zero h = refl
take_whole [] (suc n) h = refl
take_whole (x ∷ xs) zero h = absurd (omega (arith, h))
take_whole (x ∷ xs) (suc n) h = ap (λ ys. x ∷ ys) (take_whole xs n (omega (arith, h)))

-- an element that is read is what `get` gives
pub get_from_read : {X : Type 0} (xs : List X) (i : ℕ) (d : X) → i < length xs → d ≡ slice_index_or xs i d → slice_get xs i ≡ Some d
get_from_read [] i d l h = absurd (omega (arith, l))
get_from_read (x ∷ xs) zero d l h = ap Some (sym h)
get_from_read (x ∷ xs) (suc i) d l h = get_from_read xs i d (omega (arith, l)) h

pub flat_of_map : {X Y : Type 0} (g : X → List Y) (xs : List X) → flat_map (λ p. p) (map g xs) ≡ flat_map g xs
flat_of_map g [] = refl
flat_of_map g (x ∷ xs) = ap (λ ws. g x ++ ws) (flat_of_map g xs)

-- the subject counts, or does not
pub added_signed : (s : SigState) (n : Name) → is_signed n.kind n.iri ≡ true → added s (subject_names n) ≡ add_name s n.kind n.iri
unfolding added
added_signed s n h = rw h refl

pub added_unsigned : (s : SigState) (n : Name) → is_signed n.kind n.iri ≡ false → added s (subject_names n) ≡ s
unfolding added
added_unsigned s n h = rw h refl
