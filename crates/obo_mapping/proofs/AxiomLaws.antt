-- What stands for an axiom says it: one axiom after the other.
use Rattle.std.proofs.Common.{◌≡◌, ℕ, true, false, List, [], codes, Some, sym, ap, ◌∙◌}
use Rattle.std.specs.Option.{option_and_then, option_map, option_or}
use Rattle.std.specs.Str.{bytes_eq}
use Rattle.std.proofs.lemmas.Bool.{cond-false, cond-true, false_from_ne_true}
use Rattle.std.proofs.lemmas.Option.{none-some}
use Rattle.obo_tags.specs.declared.kind.FrameKind.TheVariants.{Header}
use Rattle.obo_clause.specs.declared.clause.Clause.{Clause}
use Rattle.owl_axioms.specs.Proper.{is_proper_body}
use Rattle.owl_axioms.specs.Text.{side_text}
use Rattle.owl_axioms.specs.declared.body.Axiom.{Axiom}
use Rattle.owl_axioms.specs.declared.body.Body.TheVariants as body
use Rattle.owl_axioms.specs.declared.name.Kind.{Kind}
use Rattle.owl_axioms.specs.declared.name.Kind.TheVariants as kinds
use Rattle.owl_axioms.specs.declared.name.Name.{Name}
use Rattle.text_sets.specs.Sorted.{Rises}
use Rattle.text_sets.proofs.PartLemmas.{option_and_then_some, option_map_some}
use Rattle.obo_frames.specs.Framed.{framed}
use Rattle.obo_mapping.specs.Axioms.{Situation, axiom_said, entity_of, frame_id, frame_kind, is_declared, is_logical, is_metadata, name_as, note_axiom, ontology_axiom, said_at}
use Rattle.obo_notes.specs.Context.{Agree, Reading, Writing, where_true}
use Rattle.obo_notes.specs.Forms.{said}
use Rattle.obo_notes.specs.declared.note.Note.{Note}
use Rattle.obo_notes.specs.Notes.{form_of, meaning, spelling, with_qualifiers}
use Rattle.obo_statements.specs.Statements.{statement_meaning, statement_spelling}
use Rattle.obo_notes.proofs.Guards.{same_bytes}
use Rattle.obo_notes.proofs.NoteLaws.{note_reads_back}
use Rattle.obo_statements.proofs.StatementsBack.{id_has_no_form, statement_reads_back}

-- ---- one axiom, in its frame

-- a note has not the tag of an id
note_is_no_id : (reading : Reading) (clause : Clause) (note : Note) → meaning reading clause ≡ Some note → bytes_eq clause.tag (codes "id") ≡ false
unfolding meaning
note_is_no_id reading clause note is =
    let one = option_map_some (with_qualifiers clause.qualifiers) (option_and_then (λ form. said reading form clause.value) (form_of clause.tag)) note is in
    let form = option_and_then_some (λ form. said reading form clause.value) (form_of clause.tag) one.0 one.1 in
    false_from_ne_true (bytes_eq clause.tag (codes "id")) (λ same. none-some form.0 (sym id_has_no_form ∙ ap form_of (sym (same_bytes clause.tag (codes "id") same)) ∙ form.1))

-- the document knows which of the declared entities are annotation properties
pub record Knows (situation : Situation) (writing : Writing) (declared : List Name) : Type 0 where
  pub metadata : (iri : List ℕ) → is_declared declared (name_as kinds.AnnotationProperty iri) ≡ true → is_metadata situation iri ≡ true
  pub roles : (iri id : List ℕ) → is_declared declared (name_as kinds.Role iri) ≡ true → writing.role_id iri ≡ Some id → is_metadata situation (situation.reading.iri id) ≡ false

module _ (situation : Situation) (writing : Writing) (agree : Agree situation.reading writing) (declared : List Name) (knows : Knows situation writing declared) where
  -- the frame of an entity is its own
  pub frame_back : (kind : Kind) (iri id : List ℕ) → is_declared declared (name_as kind iri) ≡ true → frame_id writing (name_as kind iri) ≡ Some id → entity_of situation (frame_kind kind) id ≡ Some (name_as kind iri)
  frame_back kinds.Class iri id is found = ap (λ x. Some (name_as kinds.Class x)) (agree.ids iri id found).1
  frame_back kinds.Individual iri id is found = ap (λ x. Some (name_as kinds.Individual x)) (agree.ids iri id found).1
  frame_back kinds.AnnotationProperty iri id is found =
      let same = (agree.ids iri id found).1 in
      let known : is_metadata situation (situation.reading.iri id) ≡ true = ap (is_metadata situation) same ∙ knows.metadata iri is in
      ap Some (cond-true (is_metadata situation (situation.reading.iri id)) (name_as kinds.AnnotationProperty (situation.reading.iri id)) (name_as kinds.Role (situation.reading.role_iri id)) known ∙ ap (name_as kinds.AnnotationProperty) same)
  frame_back kinds.Role iri id is found =
      let same = (agree.role_ids iri id found).1 in
      let known = knows.roles iri id is found in
      ap Some (cond-false (is_metadata situation (situation.reading.iri id)) (name_as kinds.AnnotationProperty (situation.reading.iri id)) (name_as kinds.Role (situation.reading.role_iri id)) known ∙ ap (name_as kinds.Role) same)

  -- what stands for a statement at a declared entity says it, by itself
  pub statement_said : (kind : Kind) (iri id : List ℕ) (one : Axiom) (clause : Clause) → is_proper_body one.body ≡ true → Rises side_text one.sides → is_logical kind ≡ true
      → is_declared declared (name_as kind iri) ≡ true → frame_id writing (name_as kind iri) ≡ Some id → statement_spelling writing (frame_kind kind) iri one ≡ Some clause
      → axiom_said situation (framed (frame_kind kind) id clause) ≡ Some one
  unfolding axiom_said
  statement_said kind iri id one clause proper rises logical is found spelled =
      let back = statement_reads_back situation.reading writing agree (frame_kind kind) iri one clause proper rises spelled in
      let name = name_as kind iri in
      let here = framed (frame_kind kind) id clause in
      ap (said_at situation here) (frame_back kind iri id is found)
      ∙ (λ i. option_or (where_true (back.2 i) (Some (record { body = body.Declaration name; sides = [] })))
      (option_or (option_map (note_axiom name) (back.1 i)) (where_true (logical i) (back.0 i))))

  -- what stands for a note at a declared entity says it
  pub note_said : (kind : Kind) (iri id : List ℕ) (note : Note) (clause : Clause) → Rises side_text note.sides → is_declared declared (name_as kind iri) ≡ true → frame_id writing (name_as kind iri) ≡ Some id
      → spelling writing (frame_kind kind) note ≡ Some clause → axiom_said situation (framed (frame_kind kind) id clause) ≡ Some (note_axiom (name_as kind iri) note)
  unfolding axiom_said
  note_said kind iri id note clause rises is found spelled =
      let back = note_reads_back situation.reading writing agree (frame_kind kind) note clause rises spelled in
      let no_id = note_is_no_id situation.reading clause note back in
      let name = name_as kind iri in
      let here = framed (frame_kind kind) id clause in
      let rest = where_true (is_logical kind) (statement_meaning situation.reading (frame_kind kind) iri clause) in
      ap (said_at situation here) (frame_back kind iri id is found)
      ∙ (λ i. option_or (where_true (no_id i) (Some (record { body = body.Declaration name; sides = [] })))
      (option_or (option_map (note_axiom name) (back i)) rest))

  -- and so does a note of the header
  pub ontology_note_said : (note : Note) (clause : Clause) → Rises side_text note.sides → spelling writing Header note ≡ Some clause → axiom_said situation (framed Header [] clause) ≡ Some (ontology_axiom note)
  unfolding axiom_said
  ontology_note_said note clause rises spelled = ap (option_map ontology_axiom) (note_reads_back situation.reading writing agree Header note clause rises spelled)
