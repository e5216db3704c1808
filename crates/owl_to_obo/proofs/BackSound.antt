-- The document of an ontology is one whose lines can be written.
use Rattle.std.proofs.Common.{◌≡◌, ℕ, true, false, not, ◌&&◌, List, [], ◌++◌, codes, Option, Some, inl, inr, ⊎_elim, refl, sym, ap, subst, ◌∙◌}
use Rattle.std.specs.List.{filter_map}
use Rattle.std.specs.Option.{option_to_list}
use Rattle.std.specs.Str.{bytes_eq}
use Rattle.std.proofs.lemmas.Bool.{and_parts, both_ways, not-true}
use Rattle.std.proofs.lemmas.Option.{same_Some}
use Rattle.iri_map.specs.Ontology.{normalised}
use Rattle.rel_io.specs.Texts.{IsWordText}
use Rattle.rel_io.proofs.Texts.{word_from_readable}
use Rattle.text_sets.specs.Sets.{In}
use Rattle.text_sets.proofs.SetLemmas.{In-append, In-append_right, In-filter_map, In-from_filter_map}
use Rattle.obo_tags.specs.declared.kind.FrameKind.{FrameKind}
use Rattle.obo_tags.specs.declared.kind.FrameKind.TheVariants.{Header, Term, Typedef}
use Rattle.obo_clause.specs.declared.clause.Clause.{Clause}
use Rattle.obo_clause.specs.declared.clause.Value.{Value}
use Rattle.obo_clause.specs.declared.clause.Value.TheVariants as value
use Rattle.obo_clause.specs.Fits.{Fits}
use Rattle.owl_axioms.specs.declared.body.Axiom.{Axiom}
use Rattle.owl_axioms.specs.declared.name.Kind.{Kind}
use Rattle.owl_axioms.specs.declared.name.Kind.TheVariants as kinds
use Rattle.owl_axioms.specs.declared.name.Name.{Name}
use Rattle.obo_frames.specs.Framed.{Framed, framed, id_clause}
use Rattle.obo_notes.specs.Context.{Writing, reading_in}
use Rattle.obo_notes.proofs.ContextLemmas.{Agree-in}
use Rattle.obo_statements.proofs.StatementsBack.{all_apart, id_has_no_form, is_apart, passes_in}
use Rattle.obo_mapping.specs.Axioms.{frame_id, frame_kind, metadata_clause, name_as}
use Rattle.obo_mapping.specs.Back.{IsSpellable, IsTold, back, writing_of}
use Rattle.obo_mapping.specs.Documents.{declared_in, has_tag, header_with, is_header, is_raw, spelled}
use Rattle.obo_mapping.proofs.BackLaw as backs
use Rattle.obo_mapping.proofs.DocumentLaw as law
use Rattle.obo_mapping.proofs.PlainClauses.{not_tag}
use Rattle.obo_mapping.proofs.SpelledLaw.{declared_among, declared_name, name_declared}
use Rattle.obo_mapping.proofs.SpelledShapes.{IsAt, Shape, form_is, group_clause, shape}
use Rattle.obo_normal_form.proofs.NormSound.{format_fits, frame_id_word, id_fits, metadata_fits, name_fits, no_id_group, plain_first, readable_name}

-- an `id` clause with a word has the id of its frame, and no qualifiers
pub record IsBareWith (f : Framed) (id : List ℕ) : Type 0 where
  pub same : id ≡ f.id
  pub none : f.clause.qualifiers ≡ []

abbrev pub IsIdBare : Framed → Type 0
IsIdBare f = (id : List ℕ) → f.clause.tag ≡ codes "id" → f.clause.value ≡ value.Id id → IsBareWith f id

word_of : Value → List ℕ
word_of (value.Id word) = word
word_of _ = []

id_is_bare : (kind : FrameKind) (id : List ℕ) → IsIdBare (framed kind id (id_clause id))
unfolding word_of
id_is_bare kind id other tag is = record { same = sym (ap word_of is); none = refl }

other_is_bare : (f : Framed) → bytes_eq f.clause.tag (codes "id") ≡ false → IsIdBare f
other_is_bare f isnt id tag is = absurd (both_ways (bytes_eq f.clause.tag (codes "id")) isnt (ap (λ t. bytes_eq t (codes "id")) tag))

module _ (name : Option (List ℕ)) (O : List Axiom) (is : IsSpellable name O) (told : IsTold (writing_of name) O) where
  abbrev pub names : List (List ℕ)
  names = option_to_list name

  abbrev space : List ℕ
  space = law.space names [] O

  abbrev w : Writing
  w = law.w names [] O

  abbrev pub D : List Framed
  D = law.D names [] O

  abbrev declared : List Name
  declared = filter_map declared_in O

  abbrev spellable : law.IsSpellable names [] O
  spellable = backs.spellable name O is told

  abbrev nameless : law.IsNameless names [] O
  nameless = backs.nameless name O is told

  pub back_is : D ≡ back name O
  unfolding back
  back_is = ap (λ v. header_with names ++ spelled v O) (backs.w_is name O is told)

  -- the id clause of a declared entity is there
  id_there : (entity : Name) (id : List ℕ) → In entity declared → frame_id w entity ≡ Some id → In (framed (frame_kind entity.kind) id (id_clause id)) D
  id_there entity id here has =
      let a = In-from_filter_map declared_in entity O here in
      let says = declared_name a.0 entity a.2 in
      let form = spellable.formed a.0 a.1 in
      ⊎_elim
      (λ alone.
      let own = law.declared_clauses w declared a.0 form.clauses entity says alone in
      let same : own.0 ≡ id = same_Some own.0 id (sym own.1 ∙ has) in
      let f = framed (frame_kind entity.kind) own.0 (id_clause own.0) in
      let among : In f form.clauses = subst (In f) own.2 (inl refl) in
      let there = law.to_spelled names [] O spellable nameless f a.0 a.1 among in
      subst (λ i. In (framed (frame_kind entity.kind) i (id_clause i)) D) same (In-append_right f (header_with names) (spelled w O) there))
      (λ grouped. absurd (law.no_group_of_name w grouped.1.iri grouped.0 a.0 entity grouped.1.clauses says grouped.1.spelled))
      (form_is (reading_in space) w (Agree-in space) declared a.0 form.clauses form.spelled)

  -- a clause that a document may have
  pub record IsFine (f : Framed) : Type 0 where
    pub fits : Fits f.frame (has_tag (codes "id") f && not (is_raw f.clause.value)) f.clause
    pub ids : is_header f ≡ false → In (framed f.frame f.id (id_clause f.id)) D
    pub header : is_header f ≡ true → f.id ≡ []
    pub bare : IsIdBare f

  no_header : (kind : Kind) (id : List ℕ) (c : Clause) → is_header (framed (frame_kind kind) id c) ≡ true → ⊥
  no_header kinds.Class id c is = let h : false ≡ true = is in absurd (cc)
  no_header kinds.Role id c is = let h : false ≡ true = is in absurd (cc)
  no_header kinds.Individual id c is = let h : false ≡ true = is in absurd (cc)
  no_header kinds.AnnotationProperty id c is = let h : false ≡ true = is in absurd (cc)

  at_name : (entity : Name) (id : List ℕ) (c : Clause) → In entity declared → frame_id w entity ≡ Some id → (let f = framed (frame_kind entity.kind) id c in Fits f.frame (has_tag (codes "id") f && not (is_raw f.clause.value)) f.clause × IsIdBare f) → IsFine (framed (frame_kind entity.kind) id c)
  at_name entity id c here has fits = record { fits = fits.0; ids = λ _. id_there entity id here has; header = λ is. absurd (no_header entity.kind id c is); bare = fits.1 }

  spelled_fine : (f : Framed) (a : Axiom) (here : In a O) → Shape (reading_in space) w (Agree-in space) declared a f → IsFine f
  spelled_fine f a here (inl (inl is)) =
      let known = In-filter_map declared_in is.name O a here (name_declared a is.name is.says) in
      subst IsFine is.same (at_name is.name is.id (id_clause is.id) known is.has (id_fits is.name.kind is.id (frame_id_word space is.name is.id is.has), id_is_bare (frame_kind is.name.kind) is.id))
  spelled_fine f a here (inl (inr (inl is))) =
      let entity = name_as kinds.AnnotationProperty is.iri in
      let known = In-filter_map declared_in entity O a here (name_declared a entity is.says) in
      subst IsFine is.same (at_name entity is.id metadata_clause known is.has (metadata_fits, other_is_bare (framed Typedef is.id metadata_clause) refl))
  spelled_fine f a here (inl (inr (inr (inl is)))) =
      let no_id = not_tag f.clause.tag (codes "id") is.note.form id_has_no_form is.note.has in
      let fits = plain_first f no_id is.fits in
      ⊎_elim
      (λ head. record { fits = fits; ids = λ isnt. absurd (both_ways (is_header f) isnt (header_frame f head.0)); header = λ _. head.1; bare = other_is_bare f no_id })
      (λ (at : IsAt (reading_in space) w (Agree-in space) declared f).
      let there = id_there at.name f.id (declared_among declared at.name at.known) at.has in
      record { fits = fits; ids = λ _. subst (λ k. In (framed k f.id (id_clause f.id)) D) at.kind there; header = λ is_head. absurd (no_header at.name.kind f.id f.clause (ap (λ k. is_header (framed k f.id f.clause)) at.kind ∙ is_head)); bare = other_is_bare f no_id })
      is.place
    where
      header_frame : (f : Framed) → f.frame ≡ Header → is_header f ≡ true
      header_frame f same = ap (λ k. is_header (framed k f.id f.clause)) same
  spelled_fine f a here (inl (inr (inr (inr is)))) =
      let apart = and_parts (Rattle.std.specs.Option.is_none (Rattle.obo_notes.specs.Notes.form_of is.says.row.tag)) (not (bytes_eq is.says.row.tag (codes "id"))) (passes_in is_apart (Rattle.obo_statements.specs.Statements.statements_of (frame_kind is.kind)) is.says.row (all_apart (frame_kind is.kind)) is.says.among) in
      let no_id = ap (λ t. bytes_eq t (codes "id")) (sym is.says.same) ∙ not-true (bytes_eq is.says.row.tag (codes "id")) apart.1 in
      let one = framed (frame_kind is.kind) is.id is.clause in
      subst IsFine is.same (at_name (name_as is.kind is.iri) is.id is.clause (declared_among declared (name_as is.kind is.iri) is.known) is.has (plain_first one no_id is.fits, other_is_bare one no_id))
  spelled_fine f a here (inr is) =
      let off = group_clause w is.iri is.group a is.clauses is.spelled is.clause is.among in
      let no_id = ap (λ t. bytes_eq t (codes "id")) off.tag ∙ no_id_group is.group in
      let one = framed Term is.id is.clause in
      subst IsFine is.same (at_name (name_as kinds.Class is.iri) is.id is.clause (declared_among declared (name_as kinds.Class is.iri) is.known) is.has (plain_first one no_id is.fits, other_is_bare one no_id))

  normal_word : (one : List ℕ) → In one names → IsWordText one
  normal_word one here = subst IsWordText (is.normal one here) (word_from_readable (normalised one) (readable_name one))

  head_fine : (f : Framed) → In f (header_with names) → IsFine f
  head_fine f here =
      ⊎_elim
      (λ format. subst IsFine (sym format) (record { fits = format_fits; ids = λ isnt. let h : true ≡ false = isnt in absurd (cc); header = λ _. refl; bare = other_is_bare law.format_clause refl }))
      (λ one. subst IsFine one.2 (record { fits = name_fits one.0 (normal_word one.0 one.1); ids = λ isnt. let h : true ≡ false = isnt in absurd (cc); header = λ _. refl; bare = other_is_bare (law.name_clause one.0) refl }))
      (law.from_header names [] O spellable nameless f here)

  pub fine : (f : Framed) → In f D → IsFine f
  fine f here =
      ⊎_elim
      (λ head. head_fine f head)
      (λ spelled_one.
      let of = law.is_of names [] O spellable nameless f spelled_one in
      spelled_fine f of.one of.among (shape (reading_in space) w (Agree-in space) declared of.one (spellable.formed of.one of.among) f of.has))
      (In-append f (header_with names) (spelled w O) here)
