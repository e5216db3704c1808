-- The normal form is a document whose lines can be written.
use Rattle.std.proofs.Common.{◌≡◌, ℕ, Bool, true, false, not, ◌&&◌, ◌||◌, List, [], ◌++◌, codes, map, All, Option, None, Some, inl, inr, ⊎_elim, refl, sym, ap, subst, ◌∙◌, arith, if◌then◌else◌}
use Rattle.std.specs.List.{AllPass, filter_map, list_all}
use Rattle.std.specs.Option.{option_map, option_to_list, unwrap_or}
use Rattle.std.specs.Str.{bytes_eq}
use Rattle.std.proofs.lemmas.Bool.{and_parts, both_ways, cases_Bool, cond-false, cond-true}
use Rattle.std.proofs.lemmas.List.Elements.{All-nil}
use Rattle.std.proofs.lemmas.List.Sums.{AllPass-from_list_all}
use Rattle.std.proofs.lemmas.Option.{none-some, same_Some}
use Rattle.iri_map.specs.Ontology.{is_short_name, normalised, ontology_iri, ontology_value}
use Rattle.rel_io.proofs.Texts.{word_from_readable}
use Rattle.text_sets.proofs.SetLemmas.{In-append, In-append_right, In-from_filter_map, In-from_map}
use Rattle.text_sets.specs.Sets.{In}
use Rattle.rel_io.specs.Texts.{IsWordText, is_readable}
use Rattle.iri_map.proofs.OntologyLemmas.{IsNormalisedValue-ontology_value}
use Rattle.iri_map.proofs.UrlLemmas.{IsCleanUrl-ontology_iri, is_readable-clean}
use Rattle.obo_tags.specs.Table.{shape_of, tags_of}
use Rattle.obo_tags.specs.declared.kind.FrameKind.{FrameKind}
use Rattle.obo_tags.specs.declared.kind.FrameKind.TheVariants.{Header, Instance, Term, Typedef}
use Rattle.obo_tags.specs.declared.kind.ValueShape.{ValueShape}
use Rattle.obo_tags.specs.declared.kind.ValueShape.TheVariants as shapes
use Rattle.obo_clause.specs.Spelling.{shape_at}
use Rattle.obo_clause.specs.Vocabulary.{is_tag_byte}
use Rattle.obo_clause.specs.declared.clause.Clause.{Clause}
use Rattle.obo_clause.specs.declared.clause.Qualifier.{Qualifier}
use Rattle.obo_clause.specs.declared.clause.Value.{Value}
use Rattle.obo_clause.specs.declared.clause.Value.TheVariants as value
use Rattle.obo_clause.specs.declared.clause.Xref.{Xref}
use Rattle.obo_clause.specs.Fits.{FitBehind, Fits, FitsQualifier, FitsShape, FitsXref, IsWordOrNone}
use Rattle.clause_printer.specs.Printing.{qualifier_text, xref_text}
use Rattle.owl_axioms.specs.declared.body.Axiom.{Axiom}
use Rattle.owl_axioms.specs.declared.name.Kind.{Kind}
use Rattle.owl_axioms.specs.declared.name.Kind.TheVariants as kinds
use Rattle.owl_axioms.specs.declared.name.Name.{Name}
use Rattle.text_sets.specs.Sorted.{sorted_by, sorted_on}
use Rattle.text_sets.proofs.PartLemmas.{option_cases, option_map_some}
use Rattle.text_sets.proofs.SortedLemmas.{sorted_by-only}
use Rattle.obo_frames.specs.Framed.{Framed, framed, id_clause}
use Rattle.obo_mapping.specs.Axioms.{entity_of, frame_id, frame_kind, is_metadata, metadata_clause, name_as}
use Rattle.obo_notes.specs.Context.{Agree, Reading, Writing, datatype_iri, datatype_word, reading_in, writing_in}
use Rattle.obo_mapping.specs.Documents.{as_kept, clauses_for, declared_in, has_tag, header_with, is_header, is_raw, is_typedef, kept, norm, owl, settled, settled_clause, settled_qualifier, settled_value, situation_of, space_of, spelled}
use Rattle.obo_normal_form.specs.NormLaws.{NormIsFramed}
use Rattle.obo_mapping.specs.Sound.{IsFramed, IsSound}
use Rattle.obo_notes.proofs.ContextLemmas.{Agree-in}
use Rattle.obo_mapping.proofs.DocumentLaw as law
use Rattle.obo_normal_form.proofs.FormedAxioms.{formed}
use Rattle.obo_normal_form.proofs.FormedNotes.{frame_of_entity}
use Rattle.obo_notes.proofs.KeyCovers.{constant_text}
use Rattle.obo_notes.proofs.NoteFits.{datatype_fits}
use Rattle.obo_normal_form.proofs.NormLaw as norms
use Rattle.obo_normal_form.proofs.OwlCases as source
use Rattle.obo_notes.proofs.PartCovers.{All-In, some_value}
use Rattle.obo_mapping.proofs.PlainClauses.{not_tag}
use Rattle.obo_statements.proofs.StatementsBack.{all_apart, id_has_no_form, is_apart, passes_in}
use Rattle.obo_normal_form.proofs.SettleLaws.{fits_quals, settled_all, settled_fits}
use Rattle.obo_mapping.proofs.SpelledLaw.{declared_among, declared_name, name_declared}
use Rattle.obo_mapping.proofs.SpelledShapes.{IsAt, Shape, form_is, group_clause, shape}
use Rattle.obo_notes.proofs.XrefLists.{all_from_in}

-- ---- names that are normal can be written

pub readable_name : (v : List ℕ) → is_readable (normalised v) ≡ true
readable_name v =
    let iri = ontology_iri v in
    ⊎_elim
    (λ short. (and_parts (is_readable (ontology_value iri)) _ (and_parts (is_readable (ontology_value iri) && _) _ short).0).0)
    (λ isnt.
    let same : ontology_value iri ≡ iri = (IsNormalisedValue-ontology_value iri).long (λ name is. both_ways (is_short_name iri (ontology_value iri)) isnt (ap (is_short_name iri) ((IsNormalisedValue-ontology_value iri).short name is) ∙ is)) in
    ap is_readable same ∙ is_readable-clean iri (IsCleanUrl-ontology_iri v))
    (cases_Bool (is_short_name iri (ontology_value iri)))

-- ---- what is settled can be written

module _ (reading : Reading) (writing : Writing) (agree : Agree reading writing) where
  settled_word : (read : List ℕ → List ℕ) (write : List ℕ → Option (List ℕ)) (word : List ℕ) → ((x y : List ℕ) → write x ≡ Some y → IsWordText y) → IsWordText word → IsWordText (settled read write word)
  settled_word read write word each fits =
      ⊎_elim (λ none. subst (λ o. IsWordText (unwrap_or o word)) (sym none) fits) (λ some. subst (λ o. IsWordText (unwrap_or o word)) (sym some.1) (each (read word) some.0 some.1)) (option_cases (write (read word)))

  id_word : (word : List ℕ) → IsWordText word → IsWordText (settled reading.iri writing.id word)
  id_word word fits = settled_word reading.iri writing.id word (λ x y is. word_from_readable y (agree.ids x y is).0) fits

  role_word : (word : List ℕ) → IsWordText word → IsWordText (settled reading.role_iri writing.role_id word)
  role_word word fits = settled_word reading.role_iri writing.role_id word (λ x y is. word_from_readable y (agree.role_ids x y is).0) fits

  datatype_is_word : (word : List ℕ) → IsWordText word → IsWordText (settled (datatype_iri reading) (datatype_word writing) word)
  datatype_is_word word fits = settled_word (datatype_iri reading) (datatype_word writing) word (λ x y is. datatype_fits reading writing agree x y is) fits

  xrefs_word : (xrefs : List Xref) → All FitsXref xrefs → All FitsXref (sorted_by xref_text xrefs)
  xrefs_word xrefs all = all_from_in FitsXref (sorted_by xref_text xrefs) (λ x here. All-In FitsXref xrefs x all (sorted_by-only xref_text xrefs x here))

  type_word : (type : Option (List ℕ)) → IsWordOrNone type → IsWordOrNone (option_map (settled reading.iri writing.id) type)
  type_word None fits = tt
  type_word (Some id) fits = id_word id fits

  value_fits : (role literal : Bool) (shape : ValueShape) (v : Value) → FitsShape shape v → FitsShape shape (settled_value reading writing role literal v)
  unfolding settled_value
  value_fits role literal shape (value.Text text) fits = fits
  value_fits role literal shape (value.Bool truth) fits = fits
  value_fits role literal shape (value.XrefValue xref) fits = fits
  value_fits role literal shape (value.Raw text) fits = fits
  value_fits role true shapes.Id (value.Id word) fits = fits
  value_fits true false shapes.Id (value.Id word) fits = role_word word fits
  value_fits false false shapes.Id (value.Id word) fits = id_word word fits
  value_fits role true shapes.IdOrPair (value.Id word) fits = fits
  value_fits true false shapes.IdOrPair (value.Id word) fits = role_word word fits
  value_fits false false shapes.IdOrPair (value.Id word) fits = id_word word fits
  value_fits true literal shapes.Pair (value.Pair first second) fits = (role_word first fits.0, role_word second fits.1)
  value_fits false literal shapes.Pair (value.Pair first second) fits = (role_word first fits.0, id_word second fits.1)
  value_fits true literal shapes.IdOrPair (value.Pair first second) fits = (role_word first fits.0, role_word second fits.1)
  value_fits false literal shapes.IdOrPair (value.Pair first second) fits = (role_word first fits.0, id_word second fits.1)
  value_fits role literal shapes.Def (value.Def text xrefs) fits = (fits.0, xrefs_word xrefs fits.1)
  value_fits role literal shapes.Synonym (value.Synonym text scope type xrefs) fits = (fits.0, type_word type fits.1, xrefs_word xrefs fits.2)
  value_fits role literal shapes.Property (value.Literal relation text datatype) fits = (id_word relation fits.0, fits.1, datatype_is_word datatype fits.2)
  value_fits role literal shapes.Property (value.Link relation target) fits = (id_word relation fits.0, id_word target fits.1)
  value_fits role literal shapes.SubsetDef (value.SubsetDef word text) fits = (id_word word fits.0, fits.1)
  value_fits role literal shapes.SynonymDef (value.SynonymDef word text scope) fits = (id_word word fits.0, fits.1)
  value_fits role literal _ _ fits = absurd fits

  all_settled : (qs : List Qualifier) → All FitsQualifier qs → All FitsQualifier (settled_all qs)
  all_settled qs all = all_from_in FitsQualifier (settled_all qs) (λ q here.
      let from = In-from_map settled_qualifier q qs (sorted_by-only qualifier_text (map settled_qualifier qs) q here) in
      subst FitsQualifier from.2 (settled_fits from.0 (All-In FitsQualifier qs from.0 all from.1)))

  quals_fit : (shape : ValueShape) (qs : List Qualifier) → FitBehind shape qs → FitBehind shape (settled_all qs)
  unfolding sorted_on
  quals_fit shapes.Raw qs none = ap settled_all none
  quals_fit _ qs all = all_settled qs all

  -- a kept clause is one that some line spells
  kept_fits : (known : Bool) (one : Framed) → Fits one.frame (has_tag (codes "id") one && not (is_raw one.clause.value)) one.clause
      → let f = Rattle.obo_normal_form.proofs.SettleLaws.kept_as reading writing agree known one in Fits f.frame (has_tag (codes "id") f && not (is_raw f.clause.value)) f.clause
  kept_fits known one fits =
      let f = Rattle.obo_normal_form.proofs.SettleLaws.kept_as reading writing agree known one in
      let next : Clause = record {
        tag = one.clause.tag;
        value = settled_value reading writing
            (is_typedef one.frame && not known && not (has_tag (codes "domain") one || has_tag (codes "range") one || has_tag (codes "subset") one || has_tag (codes "consider") one || has_tag (codes "replaced_by") one))
            (has_tag (codes "alt_id") one || has_tag (codes "import") one) one.clause.value;
        qualifiers = settled_all one.clause.qualifiers;
      } in
      let first = has_tag (codes "id") one && not (is_raw one.clause.value) in
      let shape = shape_at one.frame first one.clause.tag in
      let t = Rattle.obo_normal_form.proofs.SettleLaws.kept_tag reading writing agree known one in
      let r = Rattle.obo_normal_form.proofs.SettleLaws.kept_raw reading writing agree known one in
      let same_first : (has_tag (codes "id") f && not (is_raw f.clause.value)) ≡ first = λ i. bytes_eq (t i) (codes "id") && not (r i) in
      let fit : Fits one.frame first f.clause = ⊎_elim
      (λ raw. subst (Fits one.frame first) (sym (cond-true (is_raw one.clause.value) one.clause next raw)) fits)
      (λ isnt. subst (Fits one.frame first) (sym (cond-false (is_raw one.clause.value) one.clause next isnt)) (record {
        some = fits.some;
        each = fits.each;
        value = value_fits _ _ shape one.clause.value fits.value;
        qualifiers = quals_fit shape one.clause.qualifiers fits.qualifiers;
      }))
      (cases_Bool (is_raw one.clause.value)) in
      subst (λ b. Fits one.frame b f.clause) (sym same_first) fit

-- ---- the header and the clauses of declarations

pub format_fits : Fits Header false law.format_clause.clause
unfolding tags_of shape_of
format_fits = record {
  some = omega arith;
  each = AllPass-from_list_all is_tag_byte (codes "format-version") refl;
  value = constant_text (codes "1.4") refl refl refl;
  qualifiers = All-nil FitsQualifier;
}

pub name_fits : (name : List ℕ) → IsWordText name → Fits Header false (law.name_clause name).clause
unfolding tags_of shape_of
name_fits name fits = record {
  some = omega arith;
  each = AllPass-from_list_all is_tag_byte (codes "ontology") refl;
  value = fits;
  qualifiers = All-nil FitsQualifier;
}

pub metadata_fits : Fits Typedef false metadata_clause
unfolding tags_of shape_of
metadata_fits = record {
  some = omega arith;
  each = AllPass-from_list_all is_tag_byte (codes "is_metadata_tag") refl;
  value = tt;
  qualifiers = All-nil FitsQualifier;
}

pub id_shape : (kind : Kind) → shape_at (frame_kind kind) true (codes "id") ≡ shapes.Id
unfolding tags_of shape_of
id_shape kinds.Class = refl
id_shape kinds.Role = refl
id_shape kinds.Individual = refl
id_shape kinds.AnnotationProperty = refl

pub id_fits : (kind : Kind) (id : List ℕ) → IsWordText id → Fits (frame_kind kind) true (id_clause id)
id_fits kind id fits = record {
  some = omega arith;
  each = AllPass-from_list_all is_tag_byte (codes "id") refl;
  value = subst (λ s. FitsShape s (value.Id id)) (sym (id_shape kind)) fits;
  qualifiers = subst (λ s. FitBehind s []) (sym (id_shape kind)) (All-nil FitsQualifier);
}

pub frame_id_word : (space : List ℕ) (name : Name) (id : List ℕ) → frame_id (writing_in space) name ≡ Some id → IsWordText id
frame_id_word space name id is = by_kind name.kind is
  where
    by_kind : (kind : Kind) → frame_id (writing_in space) (name_as kind name.iri) ≡ Some id → IsWordText id
    by_kind kinds.Class is = word_from_readable id ((Agree-in space).ids name.iri id is).0
    by_kind kinds.Role is = word_from_readable id ((Agree-in space).ids name.iri id is).0
    by_kind kinds.Individual is = word_from_readable id ((Agree-in space).ids name.iri id is).0
    by_kind kinds.AnnotationProperty is = word_from_readable id ((Agree-in space).ids name.iri id is).0

pub plain_first : (f : Framed) → bytes_eq f.clause.tag (codes "id") ≡ false → Fits f.frame false f.clause → Fits f.frame (has_tag (codes "id") f && not (is_raw f.clause.value)) f.clause
plain_first f no_id fits = subst (λ b. Fits f.frame b f.clause) (sym (λ i. no_id i && not (is_raw f.clause.value))) fits

pub no_id_group : (g : Rattle.obo_statements.specs.Groups.Group) → bytes_eq (Rattle.obo_statements.specs.Groups.group_tag g) (codes "id") ≡ false
no_id_group Rattle.obo_statements.specs.Groups.intersection = refl
no_id_group Rattle.obo_statements.specs.Groups.union = refl

-- ---- the normal form

module _ (d : List Framed) (sound : IsSound d) where
  abbrev K : List Framed
  K = kept d

  abbrev O : List Axiom
  O = owl d

  abbrev space : List ℕ
  space = space_of d

  abbrev w : Writing
  w = writing_in (space_of d)

  abbrev D : List Framed
  D = law.D (Rattle.obo_mapping.specs.Documents.names_in d) K O

  abbrev declared : List Name
  declared = filter_map declared_in O

  spellable : law.IsSpellable (Rattle.obo_mapping.specs.Documents.names_in d) K O
  spellable = norms.spellable d sound (formed d sound)

  nameless : law.IsNameless (Rattle.obo_mapping.specs.Documents.names_in d) K O
  nameless = norms.nameless d sound (formed d sound)

  -- the id clause of a declared entity is there
  id_there : (name : Name) (id : List ℕ) → In name declared → frame_id w name ≡ Some id → In (framed (frame_kind name.kind) id (id_clause id)) D
  id_there name id here has =
      let a = In-from_filter_map declared_in name O here in
      let says = declared_name a.0 name a.2 in
      let form = spellable.formed a.0 a.1 in
      ⊎_elim
      (λ alone.
      let own = law.declared_clauses w declared a.0 form.clauses name says alone in
      let same : own.0 ≡ id = same_Some own.0 id (sym own.1 ∙ has) in
      let f = framed (frame_kind name.kind) own.0 (id_clause own.0) in
      let among : In f form.clauses = subst (In f) own.2 (inl refl) in
      let there = law.to_spelled (Rattle.obo_mapping.specs.Documents.names_in d) K O spellable nameless f a.0 a.1 among in
      subst (λ i. In (framed (frame_kind name.kind) i (id_clause i)) D) same
      (In-append_right f (header_with (Rattle.obo_mapping.specs.Documents.names_in d)) (K ++ spelled w O) (In-append_right f K (spelled w O) there)))
      (λ grouped. absurd (law.no_group_of_name w grouped.1.iri grouped.0 a.0 name grouped.1.clauses says grouped.1.spelled))
      (form_is (reading_in space) w (Agree-in space) declared a.0 form.clauses form.spelled)

  -- ---- spelled clauses

  record IsFine (f : Framed) : Type 0 where
    fits : Fits f.frame (has_tag (codes "id") f && not (is_raw f.clause.value)) f.clause
    ids : is_header f ≡ false → In (framed f.frame f.id (id_clause f.id)) D
    header : is_header f ≡ true → f.id ≡ []

  no_header : (kind : Kind) (id : List ℕ) (c : Clause) → is_header (framed (frame_kind kind) id c) ≡ true → ⊥
  no_header kinds.Class id c is = let h : false ≡ true = is in absurd (cc)
  no_header kinds.Role id c is = let h : false ≡ true = is in absurd (cc)
  no_header kinds.Individual id c is = let h : false ≡ true = is in absurd (cc)
  no_header kinds.AnnotationProperty id c is = let h : false ≡ true = is in absurd (cc)

  at_name : (name : Name) (id : List ℕ) (c : Clause) → In name declared → frame_id w name ≡ Some id → (let f = framed (frame_kind name.kind) id c in Fits f.frame (has_tag (codes "id") f && not (is_raw f.clause.value)) f.clause) → IsFine (framed (frame_kind name.kind) id c)
  at_name name id c here has fits = record { fits = fits; ids = λ _. id_there name id here has; header = λ is. absurd (no_header name.kind id c is) }

  spelled_fine : (f : Framed) (a : Axiom) (here : In a O) → Shape (reading_in space) w (Agree-in space) declared a f → IsFine f
  spelled_fine f a here (inl (inl is)) =
      let known = Rattle.text_sets.proofs.SetLemmas.In-filter_map declared_in is.name O a here (name_declared a is.name is.says) in
      subst IsFine is.same (at_name is.name is.id (id_clause is.id) known is.has (id_fits is.name.kind is.id (frame_id_word space is.name is.id is.has)))
  spelled_fine f a here (inl (inr (inl is))) =
      let name = name_as kinds.AnnotationProperty is.iri in
      let known = Rattle.text_sets.proofs.SetLemmas.In-filter_map declared_in name O a here (name_declared a name is.says) in
      subst IsFine is.same (at_name name is.id metadata_clause known is.has metadata_fits)
  spelled_fine f a here (inl (inr (inr (inl is)))) =
      let no_id = not_tag f.clause.tag (codes "id") is.note.form id_has_no_form is.note.has in
      let fits = plain_first f no_id is.fits in
      ⊎_elim
      (λ head. record { fits = fits; ids = λ isnt. absurd (both_ways (is_header f) isnt (header_frame f head.0)); header = λ _. head.1 })
      (λ (at : IsAt (reading_in space) w (Agree-in space) declared f).
      let there = id_there at.name f.id (declared_among declared at.name at.known) at.has in
      record { fits = fits; ids = λ _. subst (λ k. In (framed k f.id (id_clause f.id)) D) at.kind there; header = λ is_head. absurd (no_header at.name.kind f.id f.clause (ap (λ k. is_header (framed k f.id f.clause)) at.kind ∙ is_head)) })
      is.place
    where
      header_frame : (f : Framed) → f.frame ≡ Header → is_header f ≡ true
      header_frame f same = ap (λ k. is_header (framed k f.id f.clause)) same
  spelled_fine f a here (inl (inr (inr (inr is)))) =
      let apart = and_parts (Rattle.std.specs.Option.is_none (Rattle.obo_notes.specs.Notes.form_of is.says.row.tag)) (not (bytes_eq is.says.row.tag (codes "id"))) (passes_in is_apart (Rattle.obo_statements.specs.Statements.statements_of (frame_kind is.kind)) is.says.row (all_apart (frame_kind is.kind)) is.says.among) in
      let no_id = ap (λ t. bytes_eq t (codes "id")) (sym is.says.same) ∙ Rattle.std.proofs.lemmas.Bool.not-true (bytes_eq is.says.row.tag (codes "id")) apart.1 in
      subst IsFine is.same (at_name (name_as is.kind is.iri) is.id is.clause (declared_among declared (name_as is.kind is.iri) is.known) is.has (plain_first (framed (frame_kind is.kind) is.id is.clause) no_id is.fits))
  spelled_fine f a here (inr is) =
      let off = group_clause w is.iri is.group a is.clauses is.spelled is.clause is.among in
      let no_id = ap (λ t. bytes_eq t (codes "id")) off.tag ∙ no_id_group is.group in
      subst IsFine is.same (at_name (name_as kinds.Class is.iri) is.id is.clause (declared_among declared (name_as kinds.Class is.iri) is.known) is.has (plain_first (framed Term is.id is.clause) no_id is.fits))

  -- ---- kept clauses

  agree : Agree (situation_of d).reading w
  unfolding situation_of
  agree = Agree-in (space_of d)

  entity_some : (kind : FrameKind) (id : List ℕ) (c : Clause) → is_header (framed kind id c) ≡ false → (name : Name) × (entity_of (situation_of d) kind id ≡ Some name)
  entity_some Header id c is = let h : true ≡ false = is in absurd (cc)
  entity_some Term id c is = (_, refl)
  entity_some Typedef id c is = (_, refl)
  entity_some Instance id c is = (_, refl)

  kept_id : (one : Framed) (name : Name) → entity_of (situation_of d) one.frame one.id ≡ Some name → frame_id w name ≡ Some (as_kept (situation_of d) w one).id
  unfolding situation_of
  kept_id one name is =
      let reading = reading_in (space_of d) in
      let some : (i : List ℕ) → w.id (reading.iri i) ≡ Some (settled reading.iri w.id i) = λ i. let o = some_value (w.id (reading.iri i)) ((Agree-in (space_of d)).iris i) in o.1 ∙ ap (λ p. Some (unwrap_or p i)) (sym o.1) in
      by_kind one.frame one.id name some is
    where
      by_kind : (kind : FrameKind) (id : List ℕ) (name : Name) → ((i : List ℕ) → w.id ((reading_in (space_of d)).iri i) ≡ Some (settled (reading_in (space_of d)).iri w.id i)) → entity_of (situation_of d) kind id ≡ Some name
          → frame_id w name ≡ Some (as_kept (situation_of d) w (framed kind id one.clause)).id
      by_kind Header id name some is = absurd (none-some name is)
      by_kind Term id name some is = ap (frame_id w) (sym (same_Some _ name is)) ∙ some id
      by_kind Instance id name some is = ap (frame_id w) (sym (same_Some _ name is)) ∙ some id
      by_kind Typedef id name some is =
          let reading = reading_in (space_of d) in
          let known = is_metadata (situation_of d) (reading.iri id) in
          ap (frame_id w) (sym (same_Some _ name is))
          ∙ ⊎_elim
          (λ yes. ap (frame_id w) (cond-true known (name_as kinds.AnnotationProperty (reading.iri id)) (name_as kinds.Role (reading.role_iri id)) yes) ∙ some id
          ∙ (let back = sym yes in λ i. Some (if not (back i) then settled reading.role_iri w.role_id id else settled reading.iri w.id id)))
          (λ isnt. ap (frame_id w) (cond-false known (name_as kinds.AnnotationProperty (reading.iri id)) (name_as kinds.Role (reading.role_iri id)) isnt) ∙ some id
          ∙ (let back = sym isnt in λ i. Some (if not (back i) then settled reading.role_iri w.role_id id else settled reading.iri w.id id)))
          (cases_Bool known)

  kept_fine : (one : Framed) → In one d → IsFine (as_kept (situation_of d) w one)
  kept_fine one here =
      let f = as_kept (situation_of d) w one in
      record {
        fits = kept_fits (situation_of d).reading w agree (is_metadata (situation_of d) ((situation_of d).reading.iri one.id)) one (sound.fits one here);
        ids = λ isnt.
            let name = entity_some one.frame one.id one.clause isnt in
            let kind = frame_of_entity (situation_of d) one.frame one.id name.0 name.1 in
            subst (λ k. In (framed k f.id (id_clause f.id)) D) kind (id_there name.0 f.id (source.entity_declared d sound one name.0 here name.1) (kept_id one name.0 name.1));
        header = λ is. header_id one.frame one.id one.clause is (sound.header one here is);
      }
    where
      header_id : (kind : FrameKind) (id : List ℕ) (c : Clause) → is_header (framed kind id c) ≡ true → id ≡ [] → (as_kept (situation_of d) w (framed kind id c)).id ≡ []
      header_id Header id c is none = none
      header_id Term id c is none = let h : false ≡ true = is in absurd (cc)
      header_id Typedef id c is none = let h : false ≡ true = is in absurd (cc)
      header_id Instance id c is none = let h : false ≡ true = is in absurd (cc)

  head_fine : (f : Framed) → In f (header_with (Rattle.obo_mapping.specs.Documents.names_in d)) → IsFine f
  head_fine f here =
      ⊎_elim
      (λ format. subst IsFine (sym format) (record { fits = format_fits; ids = λ isnt. let h : true ≡ false = isnt in absurd (cc); header = λ _. refl }))
      (λ name.
      let one = In-from_filter_map _ name.0 d name.1 in
      let test = Rattle.obo_notes.proofs.Guards.where_true_some (is_header one.0 && has_tag (codes "ontology") one.0) (option_map normalised (Rattle.obo_mapping.specs.Documents.word_in one.0.clause.value)) name.0 one.2 in
      let word = option_map_some normalised (Rattle.obo_mapping.specs.Documents.word_in one.0.clause.value) name.0 test.1 in
      subst IsFine name.2 (record { fits = name_fits name.0 (subst IsWordText word.2 (word_from_readable (normalised word.0) (readable_name word.0))); ids = λ isnt. let h : true ≡ false = isnt in absurd (cc); header = λ _. refl }))
      (law.from_header (Rattle.obo_mapping.specs.Documents.names_in d) K O spellable nameless f here)

  fine : (f : Framed) → In f D → IsFine f
  fine f here =
      ⊎_elim
      (λ head. head_fine f head)
      (λ more. ⊎_elim
      (λ kept_one. let k = norms.is_kept d sound (formed d sound) f kept_one in subst IsFine k.same (kept_fine k.one k.among))
      (λ spelled_one.
      let of = law.is_of (Rattle.obo_mapping.specs.Documents.names_in d) K O spellable nameless f spelled_one in
      spelled_fine f of.one of.among (shape (reading_in space) w (Agree-in space) declared of.one (spellable.formed of.one of.among) f of.has))
      (In-append f K (spelled w O) more))
      (In-append f (header_with (Rattle.obo_mapping.specs.Documents.names_in d)) (K ++ spelled w O) here)

  framed_norm : IsFramed (norm d)
  framed_norm = subst IsFramed (sym (norms.norm_is d sound (formed d sound))) (record { fits = λ f here. (fine f here).fits; ids = λ f here. (fine f here).ids; header = λ f here. (fine f here).header })

pub norm_is_framed : NormIsFramed
norm_is_framed d sound = framed_norm d sound
