-- The word that a text begins with, and entities, whose text is a word and an IRI.
use Rattle.std.proofs.Common.{◌≡◌, ℕ, true, false, ◌==◌, List, [], ◌∷◌, ◌++◌, codes, if◌then◌else◌, refl, sym, ap, subst, ◌∙◌, nat_eq}
use Rattle.std.specs.Cmp.Lexicographic.{pointwise}
use Rattle.std.proofs.lemmas.Cmp.{nat_list_eq_equiv}
use Rattle.owl_axioms.specs.Names.{name_of}
use Rattle.owl_axioms.specs.Proper.{is_proper_name}
use Rattle.owl_axioms.specs.Text.{iri_text, name_text}
use Rattle.owl_axioms.specs.declared.name.Kind.{Kind}
use Rattle.owl_axioms.specs.declared.name.Kind.TheVariants as kind
use Rattle.owl_axioms.proofs.TextFronts.{append_parts, cons_parts, iri_front, phrase_front}
use Rattle.axiom_texts.proofs.Fronts.{IsFront}

-- the bytes before the first bracket
abbrev pub before_bracket : List ℕ → List ℕ
before_bracket [] = []
before_bracket (b ∷ bs) = if b == 40 then [] else b ∷ before_bracket bs

-- texts that a test tells apart are not the same
pub apart : (one other : List ℕ) → one ≡ other → pointwise nat_eq one other ≡ false → ⊥
apart one other same differ = let h : pointwise nat_eq other other ≡ false = subst (λ t. pointwise nat_eq t other ≡ false) same differ in let k : true ≡ false = sym (nat_list_eq_equiv.refl other) ∙ h in absurd (cc)

-- ---- entities

kind_word : Kind → List ℕ
kind_word kind.Class = codes "Class"
kind_word kind.Role = codes "ObjectProperty"
kind_word kind.Individual = codes "NamedIndividual"
kind_word kind.AnnotationProperty = codes "AnnotationProperty"

entity_text : (k : Kind) (iri x : List ℕ) → name_text (name_of k iri) ++ x ≡ kind_word k ++ 40 ∷ (iri_text iri ++ 41 ∷ x)
unfolding kind_word name_text
entity_text kind.Class iri x = phrase_front (codes "Class") (iri_text iri) [] x
entity_text other iri x = phrase_front (kind_word other) (iri_text iri) [] x

kind_front : (k : Kind) (z : List ℕ) → before_bracket (kind_word k ++ 40 ∷ z) ≡ kind_word k
unfolding kind_word
kind_front kind.Class z = refl
kind_front other z = refl

kind_told : (k l : Kind) → kind_word k ≡ kind_word l → k ≡ l
unfolding kind_word
kind_told kind.Class kind.Class same = refl
kind_told kind.Role kind.Role same = refl
kind_told kind.Individual kind.Individual same = refl
kind_told kind.AnnotationProperty kind.AnnotationProperty same = refl
kind_told k l same = absurd (apart (kind_word k) (kind_word l) same refl)

pub names : IsFront name_text is_proper_name
unfolding is_proper_name
names a b x y one other same =
    let texts : kind_word a.kind ++ 40 ∷ (iri_text a.iri ++ 41 ∷ x) ≡ kind_word b.kind ++ 40 ∷ (iri_text b.iri ++ 41 ∷ y) =
    sym (entity_text a.kind a.iri x) ∙ same ∙ entity_text b.kind b.iri y in
    let kinds = kind_told a.kind b.kind (sym (kind_front a.kind (iri_text a.iri ++ 41 ∷ x)) ∙ ap before_bracket texts ∙ kind_front b.kind (iri_text b.iri ++ 41 ∷ y)) in
    let inner = append_parts (kind_word b.kind) (40 ∷ (iri_text a.iri ++ 41 ∷ x)) (40 ∷ (iri_text b.iri ++ 41 ∷ y)) (subst (λ k. kind_word k ++ 40 ∷ (iri_text a.iri ++ 41 ∷ x) ≡ kind_word b.kind ++ 40 ∷ (iri_text b.iri ++ 41 ∷ y)) kinds texts) in
    let ends = iri_front a.iri b.iri (41 ∷ x) (41 ∷ y) one other (cons_parts 40 40 (iri_text a.iri ++ 41 ∷ x) (iri_text b.iri ++ 41 ∷ y) inner).1 in
    record { same = λ i. record { kind = kinds i; iri = ends.same i }; rest_same = (cons_parts 41 41 x y ends.rest_same).1 }
