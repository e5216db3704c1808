-- Axioms whose parts are clean are proper: a declaration, and a text about an entity.
use Rattle.std.proofs.Common.{◌≡◌, ℕ, ◌≤◌, true, ◌&&◌, List, [], ◌∷◌, ◌++◌, IsTrue, refl, ◌∙◌, arith}
use Rattle.std.specs.List.{list_all}
use Rattle.std.proofs.lemmas.List.Folds.{list_all-append}
use Rattle.std.proofs.lemmas.Bool.Decides.{nat_tests}
use Rattle.rel_io.specs.Texts.{is_clean_iri, is_iri_byte}
use Rattle.owl_axioms.specs.Proper.{IsProper, are_proper_sides, is_proper, is_proper_body, is_proper_name, is_proper_side, is_proper_value, rises}
use Rattle.owl_axioms.specs.declared.annotation.NoteValue.TheVariants as note
use Rattle.owl_axioms.specs.declared.annotation.Side.{Side}
use Rattle.owl_axioms.specs.declared.body.Body.TheVariants as body
use Rattle.owl_axioms.specs.declared.name.Name.{Name}

-- no annotations, and one with a clean IRI and a text
pub are_proper_sides-none : are_proper_sides [] ≡ true
unfolding are_proper_sides rises
are_proper_sides-none = refl

pub are_proper_sides-text : (side : Side) (text : List ℕ) → side.value ≡ note.Text text → IsTrue (is_clean_iri side.property) → are_proper_sides (side ∷ []) ≡ true
unfolding are_proper_sides rises is_proper_side is_proper_value
are_proper_sides-text side text is clean = let e : is_clean_iri side.property ≡ true = clean in rw (e, is) refl

-- a declaration of an entity with a clean IRI
pub IsProper-declaration : (name : Name) (sides : List Side) → IsTrue (is_clean_iri name.iri) → are_proper_sides sides ≡ true → IsProper (record { body = body.Declaration name; sides = sides })
unfolding is_proper is_proper_body is_proper_name
IsProper-declaration name sides clean proper = let e : is_clean_iri name.iri ≡ true = clean in λ i. e i && proper i

-- a text about an entity, where both IRIs are clean
pub IsProper-text : (subject : Name) (property text : List ℕ) (sides : List Side) → IsTrue (is_clean_iri subject.iri) → IsTrue (is_clean_iri property) → are_proper_sides sides ≡ true
    → IsProper (record { body = body.Note subject property (note.Text text); sides = sides })
unfolding is_proper is_proper_body is_proper_name is_proper_value
IsProper-text subject property text sides clean also proper =
    let e : is_clean_iri subject.iri ≡ true = clean in let f : is_clean_iri property ≡ true = also in rw (e, f, proper) refl

-- an IRI of two clean parts is clean
pub is_clean_iri-append : (front back : List ℕ) → IsTrue (is_clean_iri front) → IsTrue (is_clean_iri back) → IsTrue (is_clean_iri (front ++ back))
unfolding is_clean_iri
is_clean_iri-append front back one other =
    let e : list_all is_iri_byte front ≡ true = one in let f : list_all is_iri_byte back ≡ true = other in
    list_all-append is_iri_byte front back ∙ (λ i. e i && f i)

-- a small letter may stand in an IRI, and alone it is a clean one
pub is_iri_byte-letter : (b : ℕ) → 97 ≤ b → is_iri_byte b ≡ true
is_iri_byte-letter b h = grind (arith, nat_tests)

pub is_clean_iri-letter : (b : ℕ) → 97 ≤ b → IsTrue (is_clean_iri (b ∷ []))
unfolding is_clean_iri
is_clean_iri-letter b h = let e : is_iri_byte b ≡ true = is_iri_byte-letter b h in λ i. e i && true
