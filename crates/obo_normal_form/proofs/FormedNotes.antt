-- The declarations and notes of a sound document have a form.
use Rattle.std.proofs.Common.{◌≡◌, ◌⊎◌, ℕ, Bool, true, false, not, ◌&&◌, ◌||◌, List, [], ◌∷◌, ◌++◌, codes, map, All, Option, None, Some, inl, inr, ⊎_elim, refl, sym, ap, subst, ◌∙◌, arith}
use Rattle.std.specs.List.{filter_map, list_any}
use Rattle.std.specs.Option.{IsSome, option_and_then, option_map, option_or, option_to_list}
use Rattle.std.specs.Str.{bytes_eq}
use Rattle.std.proofs.lemmas.Bool.{and_parts, both_ways, cases_Bool, cond-false, cond-true, false_from_ne_true}
use Rattle.std.proofs.lemmas.List.Elements.{All-cons, All-nil}
use Rattle.std.proofs.lemmas.Option.{none-some, same_Some}
use Rattle.obo_tags.specs.Table.{shape_of, tags_of}
use Rattle.obo_tags.specs.declared.kind.FrameKind.{FrameKind}
use Rattle.obo_tags.specs.declared.kind.FrameKind.TheVariants.{Header, Instance, Term, Typedef}
use Rattle.obo_tags.specs.declared.kind.ValueShape.{ValueShape}
use Rattle.obo_tags.specs.declared.kind.ValueShape.TheVariants as shapes
use Rattle.obo_clause.specs.Spelling.{shape_at}
use Rattle.obo_clause.specs.Vocabulary.{is_tag_byte}
use Rattle.obo_clause.specs.declared.clause.Clause.{Clause}
use Rattle.obo_clause.specs.declared.clause.Qualifier.{Qualifier}
use Rattle.obo_clause.specs.declared.clause.Value.{Value}
use Rattle.obo_clause.specs.declared.clause.Value.TheVariants as value
use Rattle.text_sets.proofs.SetLemmas.{In-append, In-from_filter, In-from_filter_map}
use Rattle.text_sets.specs.Sets.{In}
use Rattle.rel_io.specs.Texts.{IsText}
use Rattle.obo_clause.specs.Fits.{FitBehind, Fits, FitsQualifier, FitsShape}
use Rattle.obo_notes.specs.declared.note.Note.{Note}
use Rattle.owl_axioms.specs.Text.{side_text}
use Rattle.owl_axioms.specs.declared.annotation.NoteValue.{NoteValue}
use Rattle.owl_axioms.specs.declared.annotation.NoteValue.TheVariants as noted
use Rattle.owl_axioms.specs.declared.body.Axiom.{Axiom}
use Rattle.owl_axioms.specs.declared.body.Body.{Body}
use Rattle.owl_axioms.specs.declared.body.Body.TheVariants as body
use Rattle.owl_axioms.specs.declared.name.Kind.{Kind}
use Rattle.owl_axioms.specs.declared.name.Kind.TheVariants as kinds
use Rattle.owl_axioms.specs.declared.name.Name.{Name}
use Rattle.text_sets.specs.Sorted.{Rises, sorted_by, sorted_on}
use Rattle.text_sets.proofs.PartLemmas.{option_and_then_some, option_map_some}
use Rattle.text_sets.proofs.SortedLemmas.{Rises-sorted_by, sorted_by-only}
use Rattle.obo_frames.specs.Framed.{Framed, framed}
use Rattle.obo_mapping.specs.Axioms.{Home, Situation, at_home, axiom_spelled, body_spelled, declaring, entity_of, frame_id, frame_kind, home_at, is_declared, is_metadata, name_as, note_axiom, ontology_axiom}
use Rattle.obo_notes.specs.Context.{Agree, Reading, Writing, reading_in, where_true, writing_in}
use Rattle.obo_mapping.specs.Documents.{clauses_for, declared_in, default_in, group_spelled, has_reserved_key, has_tag, is_header, is_import, is_misfit, is_raw, is_truth_value, is_untranslatable, kept_with, owl, situation_of, space_of, text_in}
use Rattle.obo_notes.specs.Forms.{Form, literal, note_of, said}
use Rattle.obo_notes.specs.Keys.{is_reserved_key, side_of_qualifier}
use Rattle.obo_notes.specs.Notes.{form_of, meaning, rows, spelling, with_qualifiers}
use Rattle.obo_mapping.specs.Sound.{IsSound}
use Rattle.obo_statements.specs.Groups.{intersection, union}
use Rattle.obo_notes.specs.Vocabulary.{own_property}
use Rattle.obo_statements.proofs.StatementsBack.{id_has_no_form}
use Rattle.obo_notes.proofs.ContextLemmas.{Agree-in}
use Rattle.obo_notes.proofs.Guards.{where_true_some}
use Rattle.obo_notes.proofs.NoteCovers.{Fit, fit_of}
use Rattle.obo_notes.proofs.NoteHasClause.{each_note_has_clause}
use Rattle.obo_normal_form.proofs.OwlCases as source
use Rattle.obo_notes.proofs.PartCovers.{some_value}
use Rattle.obo_mapping.proofs.PlainClauses.{import_no_form, not_tag}
use Rattle.obo_mapping.proofs.SinglesLaw.{IsStatement, first_part-among}
use Rattle.obo_mapping.proofs.SpacedLaws.{default_of}
use Rattle.obo_mapping.proofs.SpelledLaw.{is_declared_from}
use Rattle.obo_mapping.proofs.SpelledShapes.{IsFormed}

-- ---- texts that are said are texts

abbrev IsTextValue : NoteValue → Type 0
IsTextValue (noted.Text text) = IsText text
IsTextValue (noted.Typed text datatype) = Unit {0}
IsTextValue (noted.Link iri) = Unit {0}

abbrev SaysText : Option Note → Type 0
SaysText None = Unit {0}
SaysText (Some note) = IsTextValue note.value

literal_text : (text datatype : List ℕ) → IsText text → IsTextValue (literal text datatype)
literal_text text datatype is =
    ⊎_elim (λ yes. subst IsTextValue (sym (cond-true _ (noted.Text text) (noted.Typed text datatype) yes)) is) (λ isnt. subst IsTextValue (sym (cond-false _ (noted.Text text) (noted.Typed text datatype) isnt)) tt) (cases_Bool (bytes_eq datatype Rattle.obo_notes.specs.Vocabulary.xsd_string))

said_text : (reading : Reading) (form : Form) (v : Value) → Fit v → SaysText (said reading form v)
unfolding said
said_text reading (Form.TextForm property) (value.Text text) fit = fit
said_text reading (Form.WordForm property) (value.Id word) fit = fit.text
said_text reading (Form.LinkForm property) (value.Id id) fit = tt
said_text reading (Form.TruthForm property) (value.Bool true) fit = tt
said_text reading Form.DefinitionForm (value.Def text xrefs) fit = fit.0
said_text reading Form.SynonymForm (value.Synonym text scope type xrefs) fit = fit.0
said_text reading Form.XrefForm (value.XrefValue xref) fit = fit.id.text
said_text reading Form.ValueForm (value.Literal relation text datatype) fit = literal_text text _ fit.1
said_text reading Form.ValueForm (value.Link relation target) fit = tt
said_text reading Form.SubsetForm (value.SubsetDef id text) fit = tt
said_text reading Form.TypeForm (value.SynonymDef id text scope) fit = tt
said_text reading _ _ fit = tt

note_text : (reading : Reading) (c : Clause) (note : Note) → Fit c.value → meaning reading c ≡ Some note → IsTextValue note.value
unfolding meaning
note_text reading c note fit is =
    let one = option_map_some (with_qualifiers c.qualifiers) (option_and_then (λ form. said reading form c.value) (form_of c.tag)) note is in
    let form = option_and_then_some (λ form. said reading form c.value) (form_of c.tag) one.0 one.1 in
    subst (λ (n : Note). IsTextValue n.value) one.2 (subst SaysText form.2 (said_text reading form.0 c.value fit))

fits_text : (shape : ValueShape) (v : Value) (text : List ℕ) → FitsShape shape v → text_in v ≡ Some text → IsText text
fits_text shapes.Text (value.Text own) text fits is = subst IsText (same_Some own text is) fits
fits_text _ (value.Text own) text fits is = absurd fits
fits_text _ _ text fits is = absurd (none-some text is)

-- what says `false` says no note
said_false : (reading : Reading) (form : Form) (v : Value) (note : Note) → is_truth_value false v ≡ true → said reading form v ≡ Some note → ⊥
unfolding said
said_false reading (Form.TextForm property) (value.Bool false) note untrue is = none-some note is
said_false reading (Form.WordForm property) (value.Bool false) note untrue is = none-some note is
said_false reading (Form.LinkForm property) (value.Bool false) note untrue is = none-some note is
said_false reading (Form.TruthForm property) (value.Bool false) note untrue is = none-some note is
said_false reading Form.DefinitionForm (value.Bool false) note untrue is = none-some note is
said_false reading Form.SynonymForm (value.Bool false) note untrue is = none-some note is
said_false reading Form.XrefForm (value.Bool false) note untrue is = none-some note is
said_false reading Form.ValueForm (value.Bool false) note untrue is = none-some note is
said_false reading Form.SubsetForm (value.Bool false) note untrue is = none-some note is
said_false reading Form.TypeForm (value.Bool false) note untrue is = none-some note is
said_false reading form _ note untrue is = let h : false ≡ true = untrue in absurd (cc)

note_not_false : (reading : Reading) (c : Clause) (note : Note) → meaning reading c ≡ Some note → is_truth_value false c.value ≡ false
unfolding meaning
note_not_false reading c note is =
    let one = option_map_some (with_qualifiers c.qualifiers) (option_and_then (λ form. said reading form c.value) (form_of c.tag)) note is in
    let form = option_and_then_some (λ form. said reading form c.value) (form_of c.tag) one.0 one.1 in
    false_from_ne_true (is_truth_value false c.value) (λ yes. said_false reading form.0 c.value one.0 yes form.2)

note_sides : (reading : Reading) (c : Clause) (note : Note) → meaning reading c ≡ Some note → Rises side_text note.sides
unfolding meaning
note_sides reading c note is =
    let one = option_map_some (with_qualifiers c.qualifiers) (option_and_then (λ form. said reading form c.value) (form_of c.tag)) note is in
    subst (λ (n : Note). Rises side_text n.sides) one.2 (Rises-sorted_by side_text (one.0.sides ++ map side_of_qualifier c.qualifiers))

pub all_not_six : (qs : List Qualifier) → list_any (λ (q : Qualifier). is_reserved_key q.key) qs ≡ false → All (λ (q : Qualifier). is_reserved_key q.key ≡ false) qs
all_not_six [] none = All-nil (λ (q : Qualifier). is_reserved_key q.key ≡ false)
all_not_six (q ∷ qs) none =
    let parts = Rattle.std.proofs.lemmas.Bool.or_parts (is_reserved_key q.key) (list_any (λ (p : Qualifier). is_reserved_key p.key) qs) none in
    All-cons (λ (p : Qualifier). is_reserved_key p.key ≡ false) q qs parts.0 (all_not_six qs parts.1)

pub or_first : (a b c e : Bool) → a ≡ true → (a || b || c || e) ≡ true
or_first a b c e is = λ i. is i || b || c || e

-- ---- one frame

pub frame_of_entity : (situation : Situation) (kind : FrameKind) (id : List ℕ) (name : Name) → entity_of situation kind id ≡ Some name → frame_kind name.kind ≡ kind
frame_of_entity situation Header id name is = absurd (none-some name is)
frame_of_entity situation Term id name is = ap (λ (n : Name). frame_kind n.kind) (sym (same_Some _ name is))
frame_of_entity situation Instance id name is = ap (λ (n : Name). frame_kind n.kind) (sym (same_Some _ name is))
frame_of_entity situation Typedef id name is =
    ap (λ (n : Name). frame_kind n.kind) (sym (same_Some _ name is))
    ∙ ⊎_elim
    (λ yes. ap (λ (n : Name). frame_kind n.kind) (cond-true (is_metadata situation (situation.reading.iri id)) (name_as kinds.AnnotationProperty (situation.reading.iri id)) (name_as kinds.Role (situation.reading.role_iri id)) yes))
    (λ isnt. ap (λ (n : Name). frame_kind n.kind) (cond-false (is_metadata situation (situation.reading.iri id)) (name_as kinds.AnnotationProperty (situation.reading.iri id)) (name_as kinds.Role (situation.reading.role_iri id)) isnt))
    (cases_Bool (is_metadata situation (situation.reading.iri id)))

module _ (d : List Framed) (sound : IsSound d) where
  abbrev S : Situation
  S = situation_of d

  abbrev w : Writing
  w = writing_in (space_of d)

  abbrev declared : List Name
  declared = filter_map declared_in (owl d)

  pub agree : Agree (situation_of d).reading w
  unfolding situation_of
  agree = Agree-in (space_of d)

  abbrev pub HasForm : Axiom → Type 0
  HasForm a = IsFormed (reading_in (space_of d)) (writing_in (space_of d)) (Agree-in (space_of d)) declared a

  -- the IRI of an entity, and its id
  pub entity_iri : (kind : FrameKind) (id : List ℕ) (name : Name) → entity_of S kind id ≡ Some name → (one : List ℕ) × (S.reading.iri one ≡ name.iri)
  unfolding situation_of
  entity_iri Header id name is = absurd (none-some name is)
  entity_iri Term id name is = (id, ap (λ (n : Name). n.iri) (same_Some _ name is))
  entity_iri Instance id name is = (id, ap (λ (n : Name). n.iri) (same_Some _ name is))
  entity_iri Typedef id name is =
      let reading = reading_in (space_of d) in (
        id,
        sym (⊎_elim
            (λ yes. ap (λ (n : Name). n.iri) (cond-true (is_metadata S (reading.iri id)) (name_as kinds.AnnotationProperty (reading.iri id)) (name_as kinds.Role (reading.role_iri id)) yes))
            (λ isnt. ap (λ (n : Name). n.iri) (cond-false (is_metadata S (reading.iri id)) (name_as kinds.AnnotationProperty (reading.iri id)) (name_as kinds.Role (reading.role_iri id)) isnt))
            (cases_Bool (is_metadata S (reading.iri id)))) ∙ ap (λ (n : Name). n.iri) (same_Some _ name is),
      )

  id_of_iri : (iri : List ℕ) → (one : List ℕ) × (S.reading.iri one ≡ iri) → IsSome (w.id iri)
  id_of_iri iri one = subst (λ i. IsSome (w.id i)) one.1 (agree.iris one.0)

  pub frame_id_some : (name : Name) → (one : List ℕ) × (S.reading.iri one ≡ name.iri) → IsSome (frame_id w name)
  frame_id_some name one = by_kind name.kind
    where
      by_kind : (kind : Kind) → IsSome (frame_id w (name_as kind name.iri))
      by_kind kinds.Class = id_of_iri name.iri one
      by_kind kinds.Role = id_of_iri name.iri one
      by_kind kinds.Individual = id_of_iri name.iri one
      by_kind kinds.AnnotationProperty = id_of_iri name.iri one

  or_some : {X : Type 0} (o other : Option X) (x : X) → o ≡ Some x → option_or o other ≡ Some x
  or_some o other x is = ap (λ p. option_or p other) is

  pub formed_by : (a : Axiom) (cs : List Framed) → axiom_spelled w declared a ≡ Some cs → (IsStatement a.body → Rattle.owl_axioms.specs.Proper.is_proper_body a.body ≡ true) → Rises side_text a.sides → HasForm a
  unfolding clauses_for
  formed_by a cs is proper rises = record { clauses = cs; spelled = or_some (axiom_spelled w declared a) _ cs is; proper = proper; rises = rises }

  -- what keeps a note from being translated
  free_no_reserved : (f : Framed) (note : Note) → meaning S.reading f.clause ≡ Some note → is_untranslatable d f ≡ false → has_reserved_key f ≡ false
  unfolding is_untranslatable
  free_no_reserved f note means free =
      let form = Rattle.obo_mapping.proofs.PlainClauses.is_note S.reading f.clause note means in
      let no_import = no_tag (is_header f) (has_tag (codes "import") f) (not (is_raw f.clause.value)) (not_tag f.clause.tag (codes "import") form.form import_no_form form.has) in
      let no_false = note_not_false S.reading f.clause note means in
      false_from_ne_true (has_reserved_key f) (λ six.
      let misfit : is_misfit f ≡ true = (λ i. is_raw f.clause.value || (six i && not (no_import i || no_false i))) ∙ or_true (is_raw f.clause.value) in
      both_ways (is_untranslatable d f) free (or_first (is_misfit f) _ _ _ misfit))
    where
      no_tag : (a b c : Bool) → b ≡ false → (a && b && c) ≡ false
      no_tag true b c is = λ i. is i && c
      no_tag false b c is = refl

      or_true : (a : Bool) → (a || true) ≡ true
      or_true true = refl
      or_true false = refl

  fits_plain : (f : Framed) → In f d → (form : Form) → form_of f.clause.tag ≡ Some form → Fits f.frame false f.clause
  fits_plain f here form has =
      let no_id = not_tag f.clause.tag (codes "id") form id_has_no_form has in
      subst (λ first. Fits f.frame first f.clause) (λ i. no_id i && not (is_raw f.clause.value)) (sound.fits f here)

  -- ---- declarations

  pub declaration_formed : (f : Framed) (a : Axiom) → In f d → source.IsDeclared S f a → HasForm a
  unfolding axiom_spelled
  declaration_formed f a here is =
      let name = is.name in
      let id = some_value (frame_id w name) (frame_id_some name (entity_iri f.frame f.id name is.entity)) in
      let one : Axiom = record { body = body.Declaration name; sides = [] } in
      subst HasForm is.says (formed_by one (declaring name id.0) (ap (option_map (declaring name)) id.1) (λ none. absurd none) tt)

  -- ---- notes

  note_is_formed : (name : Name) (note : Note) → IsSome (spelling w (frame_kind name.kind) note) → In name declared → IsSome (frame_id w name) → Rises side_text note.sides → HasForm (note_axiom name note)
  unfolding axiom_spelled
  note_is_formed name note some among has_id rises =
      let id = some_value (frame_id w name) has_id in
      let c = some_value (spelling w (frame_kind name.kind) note) some in
      let home : Home = record { entity = name; id = id.0 } in
      let known = is_declared_from declared name among in
      let at : home_at w declared name ≡ Some home = λ i. where_true (known i) (option_map (λ id. let h : Home = record { entity = name; id = id } in h) (id.1 i)) in
      let spelled : option_and_then (λ (h : Home). option_map (at_home h) (spelling w (frame_kind name.kind) note)) (home_at w declared name) ≡ Some (at_home home c.0) =
      ap (option_and_then (λ (h : Home). option_map (at_home h) (spelling w (frame_kind name.kind) note))) at ∙ ap (option_map (at_home home)) c.1 in
      formed_by (note_axiom name note) (at_home home c.0) spelled (λ none. absurd none) rises

  pub note_formed : (f : Framed) (a : Axiom) → In f d → is_untranslatable d f ≡ false → source.IsNoted S f a → HasForm a
  note_formed f a here free is =
      let name = is.name in
      let form = Rattle.obo_mapping.proofs.PlainClauses.is_note S.reading f.clause is.note is.means in
      let fits = fits_plain f here form.form form.has in
      let plain = all_not_six f.clause.qualifiers (free_no_reserved f is.note is.means free) in
      let some = each_note_has_clause S.reading w agree f.frame f.clause is.note fits plain is.means in
      let kind = frame_of_entity S f.frame f.id name is.entity in
      subst HasForm is.says
      (note_is_formed name is.note (subst (λ k. IsSome (spelling w k is.note)) (sym kind) some) (source.entity_declared d sound f name here is.entity) (frame_id_some name (entity_iri f.frame f.id name is.entity)) (note_sides S.reading f.clause is.note is.means))

  header_of_none : (kind : FrameKind) (id : List ℕ) → entity_of S kind id ≡ None → kind ≡ Header
  header_of_none Header id is = refl
  header_of_none Term id is = absurd (none-some _ (sym is))
  header_of_none Typedef id is = absurd (none-some _ (sym is))
  header_of_none Instance id is = absurd (none-some _ (sym is))

  pub header_note_formed : (f : Framed) (a : Axiom) → In f d → is_untranslatable d f ≡ false → source.IsHeaderNote S f a → HasForm a
  unfolding axiom_spelled
  header_note_formed f a here free is =
      let form = Rattle.obo_mapping.proofs.PlainClauses.is_note S.reading f.clause is.note is.means in
      let fits = fits_plain f here form.form form.has in
      let plain = all_not_six f.clause.qualifiers (free_no_reserved f is.note is.means free) in
      let some = each_note_has_clause S.reading w agree f.frame f.clause is.note fits plain is.means in
      let c = some_value (spelling w Header is.note) (subst (λ k. IsSome (spelling w k is.note)) (header_of_none f.frame f.id is.entity) some) in
      subst HasForm is.says
      (formed_by (ontology_axiom is.note) (framed Header [] c.0 ∷ []) (ap (option_map (λ clause. framed Header [] clause ∷ [])) c.1) (λ none. absurd none) (note_sides S.reading f.clause is.note is.means))

  -- ---- the notes of namespaces

  abbrev namespace_clause : List ℕ → Clause
  namespace_clause text = record { tag = codes "namespace"; value = value.Text text; qualifiers = [] }

  abbrev namespace_note : List ℕ → Note
  namespace_note text = note_of (own_property (codes "hasOBONamespace")) (noted.Text text) []

  namespace_means : (reading : Reading) (text : List ℕ) → meaning reading (namespace_clause text) ≡ Some (namespace_note text)
  unfolding meaning form_of rows said sorted_on
  namespace_means reading text = refl

  namespace_shape : (kind : Kind) → shape_at (frame_kind kind) false (codes "namespace") ≡ shapes.Text
  unfolding tags_of shape_of
  namespace_shape kinds.Class = refl
  namespace_shape kinds.Role = refl
  namespace_shape kinds.Individual = refl
  namespace_shape kinds.AnnotationProperty = refl

  namespace_fits : (kind : Kind) (text : List ℕ) → IsText text → Fits (frame_kind kind) false (namespace_clause text)
  namespace_fits kind text is = record {
    some = omega arith;
    each = Rattle.std.proofs.lemmas.List.Sums.AllPass-from_list_all is_tag_byte (codes "namespace") refl;
    value = subst (λ shape. FitsShape shape (value.Text text)) (sym (namespace_shape kind)) is;
    qualifiers = subst (λ shape. FitBehind shape []) (sym (namespace_shape kind)) (All-nil FitsQualifier);
  }

  -- the value of a default is a text
  default_is_text : (text : List ℕ) → In text (option_to_list (default_of (source.defaults d) (source.said_in d))) → IsText text
  default_is_text text here =
      let o = default_of (source.defaults d) (source.said_in d) in
      let among = sorted_by-only (λ (t : List ℕ). t) (source.defaults d ++ filter_map default_in (source.said_in d)) text (first_part-among (sorted_by (λ (t : List ℕ). t) (source.defaults d ++ filter_map default_in (source.said_in d))) text (from_option o here)) in
      ⊎_elim
      (λ kept.
      let f = In-from_filter_map (λ (one : Framed). text_in one.clause.value) text (kept_with d (codes "default-namespace")) kept in
      let found = In-from_filter _ f.0 d f.1 in
      let fits = sound.fits f.0 found.0 in
      fits_text (shape_at f.0.frame (has_tag (codes "id") f.0 && not (is_raw f.0.clause.value)) f.0.clause.tag) f.0.clause.value text fits.value f.2)
      (λ said_one.
      let a = In-from_filter_map default_in text (source.said_in d) said_one in
      let by = source.said_by d a.0 a.1 in
      from_said a.0 by.one by.among a.2 by.says)
      (In-append text (source.defaults d) (filter_map default_in (source.said_in d)) among)
    where
      from_option : {X : Type 0} (o : Option X) {x : X} → In x (option_to_list o) → o ≡ Some x
      from_option None here = absurd here
      from_option (Some y) here = ⊎_elim (λ same. ap Some same) (λ none. absurd none) here

      of_value : (property : List ℕ) (v : NoteValue) (sides : List Rattle.owl_axioms.specs.declared.annotation.Side.Side) → IsTextValue v → default_in (record { body = body.OntologyNote property v; sides = sides }) ≡ Some text → IsText text
      of_value property (noted.Text own) sides is has = subst IsText (same_Some own text (where_true_some (bytes_eq property (own_property (codes "default-namespace"))) (Some own) text has).1) is
      of_value property (noted.Typed own datatype) sides is has = absurd (none-some text has)
      of_value property (noted.Link iri) sides is has = absurd (none-some text has)

      statement_no_default : (a : Axiom) (said : Body) → IsStatement said → default_in (record { body = said; sides = a.sides }) ≡ Some text → ⊥
      statement_no_default a (body.OntologyNote property v) one has = one
      statement_no_default a _ one has = none-some text has

      from_case : (a : Axiom) (f : Framed) → In f d → default_in a ≡ Some text → source.SaidCase S f a → IsText text
      from_case a f among has (inl is) = absurd (none-some text (ap default_in is.says ∙ has))
      from_case a f among has (inr (inl is)) = absurd (none-some text (ap default_in is.says ∙ has))
      from_case a f among has (inr (inr (inl is))) =
          let form = Rattle.obo_mapping.proofs.PlainClauses.is_note S.reading f.clause is.note is.means in
          let fits = fits_plain f among form.form form.has in
          of_value is.note.property is.note.value is.note.sides (note_text S.reading f.clause is.note (fit_of (shape_at f.frame false f.clause.tag) f.clause.value fits.value) is.means) (ap default_in is.says ∙ has)
      from_case a f among has (inr (inr (inr is))) = absurd (statement_no_default a a.body (source.stated_statement S.reading f.frame is.name.iri f.clause a is.means) has)

      pair_no_default : (c e : Rattle.owl_axioms.specs.declared.expr.ClassExpr.ClassExpr) (b : Body) (sides : List Rattle.owl_axioms.specs.declared.annotation.Side.Side) → Rattle.obo_statements.specs.Groups.expr_pair c e ≡ b → default_in (record { body = b; sides = sides }) ≡ Some text → ⊥
      pair_no_default c e b sides is has =
          ⊎_elim
          (λ yes. none-some text (ap (λ (x : Body). default_in (record { body = x; sides = sides })) (sym (cond-true _ (body.Equiv c e) (body.Equiv e c) yes) ∙ is) ∙ has))
          (λ isnt. none-some text (ap (λ (x : Body). default_in (record { body = x; sides = sides })) (sym (cond-false _ (body.Equiv c e) (body.Equiv e c) isnt) ∙ is) ∙ has))
          (cases_Bool (Rattle.owl_axioms.specs.Proper.in_order (Rattle.owl_axioms.specs.Text.expr_text c) (Rattle.owl_axioms.specs.Text.expr_text e)))

      from_said : (a : Axiom) (f : Framed) → In f d → default_in a ≡ Some text → (Rattle.obo_mapping.specs.Axioms.axiom_said S f ≡ Some a) ⊎ (Rattle.obo_mapping.specs.Documents.group_said S d f ≡ Some a) → IsText text
      from_said a f among has (inl alone) = from_case a f among has (source.said_cases S f a alone)
      from_said a f among has (inr grouped) =
          let g = source.grouped_by d f a grouped in
          let by = Rattle.obo_normal_form.proofs.GroupSource.meant_by S.reading (S.reading.iri f.id) g.group _ a g.means in
          absurd (pair_no_default _ _ a.body a.sides by.body_is has)

  pub spacing_formed : (a : Axiom) → source.IsSpaced d a → HasForm a
  spacing_formed a is =
      let name = is.name in
      let text = is.text in
      let is_text = default_is_text text is.is_default in
      let some = each_note_has_clause S.reading w agree (frame_kind name.kind) (namespace_clause text) (namespace_note text) (namespace_fits name.kind text is_text) (All-nil (λ (q : Qualifier). is_reserved_key q.key ≡ false)) (namespace_means S.reading text) in
      let one = In-from_filter_map declared_in name (source.said_in d) is.declared in
      let among = Rattle.text_sets.proofs.SetLemmas.In-filter_map declared_in name (owl d) one.0 (source.said_in_owl d one.0 one.1) one.2 in
      let f = source.declared_from d name among in
      subst HasForm is.same (note_is_formed name (namespace_note text) some among (frame_id_some name (entity_iri f.0.frame f.0.id name f.2)) tt)
