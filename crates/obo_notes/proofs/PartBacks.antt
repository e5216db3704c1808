-- Each part of a value stands for its annotation.
use Rattle.std.proofs.Common.{◌≡◌, ℕ, ◌&&◌, List, [], ◌∷◌, Some, refl, sym, ap, subst, ◌∙◌}
use Rattle.std.specs.Option.{is_none}
use Rattle.std.specs.Str.{bytes_eq}
use Rattle.std.proofs.lemmas.Bool.{and_parts}
use Rattle.std.proofs.lemmas.Option.{none-some, same_Some}
use Rattle.obo_clause.specs.declared.clause.Scope.{Scope}
use Rattle.obo_clause.specs.declared.clause.Scope.TheVariants as scope
use Rattle.obo_clause.specs.declared.clause.Xref.{Xref}
use Rattle.obo_clause.specs.Spelling.{scope_word}
use Rattle.owl_axioms.specs.declared.annotation.NoteValue.{NoteValue}
use Rattle.owl_axioms.specs.declared.annotation.NoteValue.TheVariants.{Link, Text, Typed}
use Rattle.text_sets.specs.Parts.{StandsFor}
use Rattle.text_sets.proofs.PartLemmas.{first_some-found, option_and_then_some}
use Rattle.obo_notes.specs.Context.{Agree, Reading, Writing, where_true}
use Rattle.obo_notes.specs.Keys.{plain_text, qualifier_of, side_of_qualifier, text_of_value, text_side}
use Rattle.obo_notes.specs.Parts.{id_of_value, is_label, is_word, scope_if, scope_of, scope_of_word, side_of_scope, side_of_type, side_of_xref, text_of, type_of, xref_of}
use Rattle.obo_notes.specs.Vocabulary.{has_dbxref, has_scope, has_synonym_type}
use Rattle.obo_notes.proofs.Guards.{none_from_is_none, same_bytes, where_true_some}
use Rattle.obo_notes.proofs.KeyLemmas.{plain_text-back, qualifier_of-back, text_of_value-back}

pub StandsFor-qualifier : StandsFor qualifier_of side_of_qualifier
StandsFor-qualifier side qualifier is = (qualifier_of-back side qualifier is).0

pub StandsFor-text : (property : List ℕ) → StandsFor (text_of property) (text_side property)
unfolding text_of
StandsFor-text property side text is =
    let found = where_true_some (bytes_eq side.property property) (plain_text side) text is in
    let plain = plain_text-back side text found.1 in
    let same = same_bytes side.property property found.0 in
    λ i. record { property = sym same i; value = sym plain.1 i; label = sym plain.0 i }

pub StandsFor-xref : StandsFor xref_of side_of_xref
unfolding xref_of
StandsFor-xref side xref is =
    let found = where_true_some (bytes_eq side.property has_dbxref && is_label side.label) _ xref is in
    let tests = and_parts _ _ found.0 in
    let id = option_and_then_some (λ (id : List ℕ). where_true (is_word id) (let x : Xref = record { id = id; label = side.label } in Some x)) (text_of_value side.value) xref found.1 in
    let word = where_true_some (is_word id.0) (let x : Xref = record { id = id.0; label = side.label } in Some x) xref id.2 in
    let value = text_of_value-back side.value id.0 id.1 in
    let same = same_bytes side.property has_dbxref tests.0 in
    let x : Xref = record { id = id.0; label = side.label } in
    subst (λ (z : Xref). side_of_xref z ≡ side) (same_Some x xref word.1) (λ i. record { property = sym same i; value = sym value.0 i; label = side.label })

pub id_of_value-back : (writing : Writing) (value : NoteValue) (id : List ℕ) → id_of_value writing value ≡ Some id → (iri : List ℕ) × (value ≡ Link iri) × (writing.id iri ≡ Some id)
id_of_value-back writing (Link iri) id is = (iri, refl, is)
id_of_value-back writing (Text text) id is = absurd (none-some id is)
id_of_value-back writing (Typed text datatype) id is = absurd (none-some id is)

pub link-back : (reading : Reading) (writing : Writing) → Agree reading writing → (value : NoteValue) (id : List ℕ) → id_of_value writing value ≡ Some id → value ≡ Link (reading.iri id)
link-back reading writing agree value id is =
    let found = id_of_value-back writing value id is in
    found.1 ∙ ap Link (sym (agree.ids found.0 id found.2).1)

pub StandsFor-type : (reading : Reading) (writing : Writing) → Agree reading writing → StandsFor (type_of writing) (side_of_type reading)
unfolding type_of
StandsFor-type reading writing agree side id is =
    let found = where_true_some (bytes_eq side.property has_synonym_type && is_none side.label) (id_of_value writing side.value) id is in
    let tests = and_parts _ _ found.0 in
    let value = link-back reading writing agree side.value id found.1 in
    let same = same_bytes side.property has_synonym_type tests.0 in
    let label = none_from_is_none side.label tests.1 in
    λ i. record { property = sym same i; value = sym value i; label = sym label i }

scope_of_word-back : (word : List ℕ) (one : Scope) → scope_of_word word ≡ Some one → scope_word one ≡ word
unfolding scope_of_word
scope_of_word-back word one is =
    let found = first_some-found (scope_if word) (scope.Exact ∷ scope.Broad ∷ scope.Narrow ∷ scope.Related ∷ []) one is in
    let test = where_true_some (bytes_eq (scope_word found.0) word) (Some found.0) one found.2 in
    subst (λ s. scope_word s ≡ word) (same_Some found.0 one test.1) (same_bytes (scope_word found.0) word test.0)

pub StandsFor-scope : StandsFor scope_of side_of_scope
unfolding scope_of
StandsFor-scope side one is =
    let found = option_and_then_some scope_of_word (text_of has_scope side) one is in
    ap (text_side has_scope) (scope_of_word-back found.0 one found.2) ∙ StandsFor-text has_scope side found.0 found.1
