-- The text of an axiom tells it, but for the kind of the entity of a note.
use Rattle.std.proofs.Common.{◌≡◌, ℕ, true, List, ◌∷◌, ◌++◌, codes, inl, inr, map, refl, sym, ap, subst, ◌∙◌, append_assoc, ⊎_elim, Some}
use Rattle.std.specs.List.{list_all}
use Rattle.std.proofs.lemmas.Bool.{and_parts}
use Rattle.owl_axioms.specs.Names.{name_of}
use Rattle.owl_axioms.specs.Proper.{are_proper_sides, is_proper, is_proper_body, is_proper_side, rises}
use Rattle.owl_axioms.specs.Text.{axiom_text, body_text, side_text}
use Rattle.owl_axioms.specs.declared.annotation.NoteValue.{NoteValue}
use Rattle.owl_axioms.specs.declared.body.Axiom.{Axiom}
use Rattle.owl_axioms.specs.declared.body.Body.TheVariants as body
use Rattle.owl_axioms.specs.declared.name.Kind.{Kind}
use Rattle.owl_axioms.specs.inner.Joined.{opening, spaced}
use Rattle.owl_axioms.proofs.TextFronts.{append_parts, cons_parts}
use Rattle.axiom_texts.specs.Alike.{SameButKind, kind_of_subject}
use Rattle.axiom_texts.proofs.Bodies.{SameBody, behind, behind_is, body_opened, body_told, word, word_front}
use Rattle.axiom_texts.proofs.Sides.{sides_told}
use Rattle.axiom_texts.proofs.Words.{before_bracket}

-- what stands behind the word and its bracket
abbrev inside : Axiom → List ℕ
inside a = spaced (map side_text a.sides) ++ behind a.body

text_opened : (a : Axiom) → axiom_text a ≡ word a.body ++ 40 ∷ inside a
unfolding axiom_text opening
text_opened a =
    body_opened (map side_text a.sides) a.body
    ∙ append_assoc (word a.body ++ codes "(") (spaced (map side_text a.sides)) (behind a.body)
    ∙ append_assoc (word a.body) (codes "(") (inside a)

record Parts (a : Axiom) : Type 0 where
  body : is_proper_body a.body ≡ true
  sides : list_all is_proper_side a.sides ≡ true

proper_parts : (a : Axiom) → is_proper a ≡ true → Parts a
unfolding is_proper are_proper_sides
proper_parts a is =
    let two = and_parts (is_proper_body a.body) (are_proper_sides a.sides) is in
    record { body = two.0; sides = (and_parts (rises (map side_text a.sides)) (list_all is_proper_side a.sides) two.1).1 }

axiom_by_parts : (a b : Axiom) → a.sides ≡ b.sides → SameBody a.body b.body → SameButKind a b
axiom_by_parts a b sides told = ⊎_elim (λ is. inl (λ i. record { body = is i; sides = sides i })) (λ notes. inr (record { bodies = notes; sides = sides })) told

pub axiom_told : (a b : Axiom) → axiom_text a ≡ axiom_text b → is_proper a ≡ true → is_proper b ≡ true → SameButKind a b
axiom_told a b same is also =
    let mine = proper_parts a is in
    let yours = proper_parts b also in
    let texts : word a.body ++ 40 ∷ inside a ≡ word b.body ++ 40 ∷ inside b = sym (text_opened a) ∙ same ∙ text_opened b in
    let words = sym (word_front a.body (inside a)) ∙ ap before_bracket texts ∙ word_front b.body (inside b) in
    let brackets = append_parts (word b.body) (40 ∷ inside a) (40 ∷ inside b) (subst (λ w. w ++ 40 ∷ inside a ≡ word b.body ++ 40 ∷ inside b) words texts) in
    let ends = sides_told a.sides b.sides (behind a.body) (behind b.body) mine.sides yours.sides (behind_is a.body) (behind_is b.body) (cons_parts 40 40 (inside a) (inside b) brackets).1 in
    axiom_by_parts a b ends.same (body_told a.body b.body mine.body yours.body words ends.rest_same)

-- ---- the other way

note_texts : (sides : List (List ℕ)) (k l : Kind) (iri property : List ℕ) (value : NoteValue) → body_text sides (body.Note (name_of k iri) property value) ≡ body_text sides (body.Note (name_of l iri) property value)
unfolding body_text
note_texts sides k l iri property value = refl

pub alike_one_text : (a b : Axiom) → SameButKind a b → axiom_text a ≡ axiom_text b
unfolding axiom_text
alike_one_text a b (inl is) = ap axiom_text is
alike_one_text a b (inr alike) =
    let notes = alike.bodies in
    (λ i. body_text (map side_text (alike.sides i)) (notes.one_is i))
    ∙ note_texts (map side_text b.sides) notes.kind notes.other_kind notes.iri notes.property notes.value
    ∙ ap (body_text (map side_text b.sides)) (sym notes.other_is)

-- ---- notes about entities of one kind

same_kind : (k l : Kind) → Some k ≡ Some l → k ≡ l
same_kind k l is = cc

one_kind : (a b : Axiom) → kind_of_subject a.body ≡ kind_of_subject b.body → SameButKind a b → a ≡ b
unfolding kind_of_subject
one_kind a b kinds (inl is) = is
one_kind a b kinds (inr alike) =
    let notes = alike.bodies in
    let k = same_kind notes.kind notes.other_kind (sym (ap kind_of_subject notes.one_is) ∙ kinds ∙ ap kind_of_subject notes.other_is) in
    let bodies : a.body ≡ b.body = notes.one_is ∙ (λ i. body.Note (name_of (k i) notes.iri) notes.property notes.value) ∙ sym notes.other_is in
    λ i. record { body = bodies i; sides = alike.sides i }

pub axiom_told_by_kind : (a b : Axiom) → axiom_text a ≡ axiom_text b → kind_of_subject a.body ≡ kind_of_subject b.body → is_proper a ≡ true → is_proper b ≡ true → a ≡ b
axiom_told_by_kind a b same kinds is also = one_kind a b kinds (axiom_told a b same is also)
