-- The annotations that stand first in a text are told, where what stands behind them begins with no annotation.
use Rattle.std.proofs.Common.{◌≡◌, ℕ, Bool, true, false, List, [], ◌∷◌, ◌++◌, codes, map, take, refl, sym, ap, subst, ◌∙◌, append_assoc, nat_eq, true≢false}
use Rattle.std.specs.Cmp.Lexicographic.{pointwise}
use Rattle.std.specs.List.{list_all}
use Rattle.std.proofs.lemmas.Bool.{and_parts}
use Rattle.owl_axioms.specs.Proper.{is_proper_side}
use Rattle.owl_axioms.specs.Text.{expr_text, iri_text, phrase, side_text}
use Rattle.owl_axioms.specs.declared.annotation.Side.{Side}
use Rattle.owl_axioms.specs.declared.expr.ClassExpr.{ClassExpr}
use Rattle.owl_axioms.specs.declared.expr.ClassExpr.TheOpen.{ClassExpr-F}
use Rattle.owl_axioms.specs.declared.expr.ClassExpr.TheViews.{out-ClassExpr, roll-ClassExpr, roll-out-ClassExpr}
use Rattle.owl_axioms.specs.inner.Joined.{spaced}
use Rattle.owl_axioms.proofs.Layers.{text_of_all, text_of_and, text_of_class, text_of_exact, text_of_max, text_of_min, text_of_not, text_of_nothing, text_of_or, text_of_some, text_of_thing}
use Rattle.owl_axioms.proofs.TellingSides.{side_front}
use Rattle.owl_axioms.proofs.TextFronts.{Ends, cons_parts}

-- whether a text begins as an annotation does
abbrev pub is_annotated : List ℕ → Bool
is_annotated text = pointwise nat_eq (take 11 text) (codes "Annotation(")

side_is : (s : Side) (x : List ℕ) → is_annotated (side_text s ++ x) ≡ true
unfolding side_text phrase
side_is s x = refl

-- no expression begins so
layer_is : (layer : ClassExpr-F ClassExpr) (x : List ℕ) → is_annotated (expr_text (roll-ClassExpr layer) ++ x) ≡ false
unfolding iri_text phrase roll-ClassExpr denote.Hole.Carrier.roll
layer_is ClassExpr-F.Thing x = ap (λ t. is_annotated (t ++ x)) text_of_thing
layer_is ClassExpr-F.Nothing x = ap (λ t. is_annotated (t ++ x)) text_of_nothing
layer_is (ClassExpr-F.Class iri) x = ap (λ t. is_annotated (t ++ x)) (text_of_class iri)
layer_is (ClassExpr-F.And parts) x = ap (λ t. is_annotated (t ++ x)) (text_of_and parts)
layer_is (ClassExpr-F.Or parts) x = ap (λ t. is_annotated (t ++ x)) (text_of_or parts)
layer_is (ClassExpr-F.Not part) x = ap (λ t. is_annotated (t ++ x)) (text_of_not part)
layer_is (ClassExpr-F.Some role part) x = ap (λ t. is_annotated (t ++ x)) (text_of_some role part)
layer_is (ClassExpr-F.All role part) x = ap (λ t. is_annotated (t ++ x)) (text_of_all role part)
layer_is (ClassExpr-F.Min n role part) x = ap (λ t. is_annotated (t ++ x)) (text_of_min n role part)
layer_is (ClassExpr-F.Max n role part) x = ap (λ t. is_annotated (t ++ x)) (text_of_max n role part)
layer_is (ClassExpr-F.Exact n role part) x = ap (λ t. is_annotated (t ++ x)) (text_of_exact n role part)

pub expr_is : (c : ClassExpr) (x : List ℕ) → is_annotated (expr_text c ++ x) ≡ false
expr_is c x = subst (λ d. is_annotated (expr_text d ++ x) ≡ false) (roll-out-ClassExpr c) (layer_is (out-ClassExpr c) x)

-- one annotation, a space, and what stands behind it
side_next : (s : Side) (ss : List Side) (p : List ℕ) → spaced (map side_text (s ∷ ss)) ++ p ≡ side_text s ++ 32 ∷ (spaced (map side_text ss) ++ p)
side_next s ss p = append_assoc (side_text s ++ codes " ") (spaced (map side_text ss)) p ∙ append_assoc (side_text s) (codes " ") (spaced (map side_text ss) ++ p)

one_or_none : (s : Side) (ss : List Side) (p q : List ℕ) → is_annotated q ≡ false → spaced (map side_text (s ∷ ss)) ++ p ≡ q → ⊥
one_or_none s ss p q is same =
    true≢false (sym (side_is s (32 ∷ (spaced (map side_text ss) ++ p))) ∙ ap is_annotated (sym (side_next s ss p) ∙ same) ∙ is)

pub sides_told : (ss ts : List Side) (p q : List ℕ) → list_all is_proper_side ss ≡ true → list_all is_proper_side ts ≡ true → is_annotated p ≡ false → is_annotated q ≡ false
    → spaced (map side_text ss) ++ p ≡ spaced (map side_text ts) ++ q → Ends ss ts p q
sides_told [] [] p q one other is also same = record { same = refl; rest_same = same }
sides_told [] (t ∷ ts) p q one other is also same = absurd (one_or_none t ts q p is (sym same))
sides_told (s ∷ ss) [] p q one other is also same = absurd (one_or_none s ss p q also same)
sides_told (s ∷ ss) (t ∷ ts) p q one other is also same =
    let mine = and_parts (is_proper_side s) (list_all is_proper_side ss) one in
    let yours = and_parts (is_proper_side t) (list_all is_proper_side ts) other in
    let x = spaced (map side_text ss) ++ p in
    let y = spaced (map side_text ts) ++ q in
    let first = side_front s t (32 ∷ x) (32 ∷ y) mine.0 yours.0 (sym (side_next s ss p) ∙ same ∙ side_next t ts q) in
    let rest = sides_told ss ts p q mine.1 yours.1 is also (cons_parts 32 32 x y first.rest_same).1 in
    record { same = λ i. first.same i ∷ rest.same i; rest_same = rest.rest_same }
