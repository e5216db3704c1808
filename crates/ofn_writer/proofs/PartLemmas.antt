-- The texts of a part of the axioms, with one axiom more.
use Rattle.std.proofs.Common.{◌≡◌, ◌+◌, ℕ, Bool, true, false, cond, List, [], ◌∷◌, ◌++◌, Some, map, slice_get, take, refl, ap, ◌∙◌}
use Rattle.std.proofs.lemmas.List.{map-append}
use Rattle.owl_axioms.specs.Names.{Scope}
use Rattle.owl_axioms.specs.declared.body.Axiom.{Axiom}
use Rattle.ofn_writer.specs.Text.{is_in_part, part, told_text}
use Rattle.ofn_writer.proofs.ListLemmas.{filter_next}

-- the texts of a part of the first axioms
abbrev pub texts_of : Scope → Bool → ℕ → List Axiom → List (List ℕ)
texts_of declared first at axioms = map (told_text declared) (part first (take at axioms))

append_nothing : {X : Type 0} (xs : List X) → xs ++ [] ≡ xs
append_nothing [] = refl
append_nothing (x ∷ xs) = ap (λ ys. x ∷ ys) (append_nothing xs)

part_next : (first : Bool) (axioms : List Axiom) (at : ℕ) (a : Axiom) (b : Bool) → slice_get axioms at ≡ Some a → is_in_part first a.body ≡ b → part first (take (at + 1) axioms) ≡ part first (take at axioms) ++ cond b (a ∷ []) []
part_next first axioms at a b here is =
    filter_next (λ x. is_in_part first x.body) axioms at a here ∙ (λ i. part first (take at axioms) ++ cond (is i) (a ∷ []) [])

pub texts_with : (declared : Scope) (first : Bool) (axioms : List Axiom) (at : ℕ) (a : Axiom) → slice_get axioms at ≡ Some a → is_in_part first a.body ≡ true → texts_of declared first (at + 1) axioms ≡ texts_of declared first at axioms ++ told_text declared a ∷ []
texts_with declared first axioms at a here is =
    ap (map (told_text declared)) (part_next first axioms at a true here is) ∙ map-append (told_text declared) (part first (take at axioms)) (a ∷ [])

pub texts_stay : (declared : Scope) (first : Bool) (axioms : List Axiom) (at : ℕ) (a : Axiom) → slice_get axioms at ≡ Some a → is_in_part first a.body ≡ false → texts_of declared first (at + 1) axioms ≡ texts_of declared first at axioms
texts_stay declared first axioms at a here is =
    ap (map (told_text declared)) (part_next first axioms at a false here is ∙ append_nothing (part first (take at axioms)))
