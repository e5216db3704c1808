-- The one law of documents: what is spelled beside a header and kept clauses says the axioms again, with their namespaces.
use Rattle.std.proofs.Common.{◌≡◌, ◌⊎◌, ℕ, Bool, true, false, ◌&&◌, List, [], ◌++◌, codes, map, Option, None, Some, inl, inr, ⊎_elim, refl, sym, ap, subst, ◌∙◌}
use Rattle.std.specs.List.{filter, filter_map}
use Rattle.std.specs.Option.{option_map, unwrap_or}
use Rattle.std.specs.Str.{bytes_eq}
use Rattle.std.proofs.lemmas.Bool.{and_parts, both_ways, false_from_ne_true}
use Rattle.std.proofs.lemmas.Option.{none-some, same_Some}
use Rattle.iri_map.proofs.CandidateLemmas.{bytes_eq-refl}
use Rattle.iri_map.specs.Ontology.{name_or_temp, normalised}
use Rattle.obo_tags.specs.declared.kind.FrameKind.TheVariants.{Header, Typedef}
use Rattle.obo_clause.specs.declared.clause.Clause.{Clause}
use Rattle.obo_clause.specs.declared.clause.Value.TheVariants as value
use Rattle.owl_axioms.specs.declared.body.Axiom.{Axiom}
use Rattle.owl_axioms.specs.declared.body.Body.TheVariants as body
use Rattle.owl_axioms.specs.declared.name.Kind.TheVariants as kinds
use Rattle.owl_axioms.specs.declared.name.Name.{Name}
use Rattle.text_sets.proofs.SortedLemmas.{same_sorted}
use Rattle.text_sets.proofs.SetLemmas.{In-append, In-append_left, In-append_right, In-filter, In-filter_map, In-flat_map, In-from_filter, In-from_filter_map, In-from_flat_map, In-from_map, In-map, same_refl}
use Rattle.text_sets.specs.Sets.{In, SameMembers}
use Rattle.text_sets.specs.Sorted.{sorted_by}
use Rattle.text_sets.proofs.PartLemmas.{option_map_some}
use Rattle.obo_frames.specs.Framed.{Framed, framed, id_clause}
use Rattle.obo_mapping.specs.Axioms.{Situation, axiom_said, axiom_spelled, body_spelled, declaring, entity_of, frame_id, frame_kind, is_declared, is_metadata, metadata_clause, name_as, ontology_axiom}
use Rattle.obo_notes.specs.Context.{Agree, Writing, reading_in, where_true, writing_in}
use Rattle.obo_mapping.specs.Documents.{clauses_for, declared_in, group_of, group_said, has_tag, header_with, is_header, is_truth_value, is_typedef, is_untranslatable, kept_with, names_in, owl, situation_of, spaced, space_of, spelled, text_in, word_in}
use Rattle.obo_notes.specs.Forms.{first_part}
use Rattle.obo_notes.specs.Notes.{form_of, rows}
use Rattle.obo_statements.specs.Groups.{Group, group_spelling, group_tag, intersection, union}
use Rattle.obo_statements.specs.inner.PlainGroups.{plain_group_in_body}
use Rattle.obo_statements.proofs.PlainGroups.{group_is_spelled_plainly}
use Rattle.obo_mapping.proofs.SaidSingly.{owl_singly}
use Rattle.obo_mapping.proofs.AxiomLaws.{Knows}
use Rattle.obo_notes.proofs.ContextLemmas.{Agree-in}
use Rattle.obo_notes.proofs.Guards.{same_bytes, where_true_some}
use Rattle.obo_mapping.proofs.OfSet.{any_from_in, in_from_any}
use Rattle.obo_mapping.proofs.PlainClauses.{PlainTag, id_tag, no_note, note_tag, statement_tag}
use Rattle.obo_mapping.proofs.SpacedLaws.{same_spaced}
use Rattle.obo_mapping.proofs.SpelledLaw.{IsBeside, IsSpelledIn, axioms_are, declared_among, declared_name, spelled_translated, translated}
use Rattle.obo_mapping.proofs.SpelledShapes.{IsFormed, IsMetadataClause, Shape, form_is, group_clause, shape}

-- ---- the tags of the header and of groups

format_no_form : form_of (codes "format-version") ≡ None
unfolding form_of rows
format_no_form = refl

ontology_no_form : form_of (codes "ontology") ≡ None
unfolding form_of rows
ontology_no_form = refl

no_ontology : (group : Group) → bytes_eq (group_tag group) (codes "ontology") ≡ false
no_ontology intersection = refl
no_ontology union = refl

no_metadata : (group : Group) → bytes_eq (group_tag group) (codes "is_metadata_tag") ≡ false
no_metadata intersection = refl
no_metadata union = refl

no_import : (group : Group) → bytes_eq (group_tag group) (codes "import") ≡ false
no_import intersection = refl
no_import union = refl

header_silent : (situation : Situation) (id : List ℕ) (clause : Clause) → form_of clause.tag ≡ None → axiom_said situation (framed Header id clause) ≡ None
unfolding axiom_said
header_silent situation id clause none = ap (option_map ontology_axiom) (no_note situation.reading clause none)

-- a clause of the header that is given
abbrev pub format_clause : Framed
format_clause = framed Header [] (record { tag = codes "format-version"; value = value.Text (codes "1.4"); qualifiers = [] })

abbrev pub name_clause : List ℕ → Framed
name_clause name = framed Header [] (record { tag = codes "ontology"; value = value.Id name; qualifiers = [] })

-- ---- the clauses of a declaration

pub declared_clauses : (w : Writing) (declared : List Name) (a : Axiom) (cs : List Framed) (name : Name) → a.body ≡ body.Declaration name → axiom_spelled w declared a ≡ Some cs → (id : List ℕ) × (frame_id w name ≡ Some id) × (declaring name id ≡ cs)
unfolding axiom_spelled
declared_clauses w declared a cs name says is =
    let one = where_true_some _ (option_map (declaring name) (frame_id w name)) cs (sym (ap (body_spelled w declared a) says) ∙ is) in
    let id = option_map_some (declaring name) (frame_id w name) cs one.1 in
    (id.0, id.1, id.2)

pub no_group_of_name : (w : Writing) (x : List ℕ) (group : Group) (a : Axiom) (name : Name) (clauses : List Clause) → a.body ≡ body.Declaration name → group_spelling w x group a ≡ Some clauses → ⊥
no_group_of_name w x group a name clauses says is = none-some clauses (sym (ap (plain_group_in_body w x group a.sides) says) ∙ sym (group_is_spelled_plainly w x group a) ∙ is)

module _ (names : List (List ℕ)) (K : List Framed) (O : List Axiom) where
  abbrev pub space : List ℕ
  space = name_or_temp (first_part (sorted_by (λ (name : List ℕ). name) names))

  abbrev pub w : Writing
  w = writing_in space

  abbrev pub declared : List Name
  declared = filter_map declared_in O

  abbrev pub D : List Framed
  D = header_with names ++ (K ++ spelled w O)

  -- the axioms are spelled, and no name stands for two
  pub record IsSpellable : Type 0 where
    pub normal : (name : List ℕ) → In name names → normalised name ≡ name
    pub formed : (a : Axiom) → In a O → IsFormed (reading_in space) w (Agree-in space) declared a
    pub apart : (iri : List ℕ) → In (name_as kinds.Role iri) declared → In (name_as kinds.AnnotationProperty iri) declared → ⊥
    pub once : (x : List ℕ) (group : Group) (a b : Axiom) (some others : List Clause) → In a O → In b O → group_spelling w x group a ≡ Some some → group_spelling w x group b ≡ Some others → a ≡ b

  -- what is kept names nothing
  pub record IsNameless : Type 0 where
    pub ontology : (f : Framed) → In f K → (is_header f && has_tag (codes "ontology") f) ≡ true → word_in f.clause.value ≡ None
    pub metadata : (f : Framed) → In f K → (is_typedef f.frame && has_tag (codes "is_metadata_tag") f && is_truth_value true f.clause.value) ≡ false

  module _ (is : IsSpellable) (nameless : IsNameless) where
    pub record IsOf (f : Framed) : Type 0 where
      pub one : Axiom
      pub among : In one O
      pub has : In f (is.formed one among).clauses

    pub is_of : (f : Framed) → In f (spelled w O) → IsOf f
    unfolding spelled
    is_of f here =
        let a = In-from_flat_map (λ (one : Axiom). unwrap_or (clauses_for w declared one) []) f O here in
        let formed = is.formed a.0 a.1 in
        record { one = a.0; among = a.1; has = subst (λ (o : Option (List Framed)). In f (unwrap_or o [])) formed.spelled a.2 }

    pub to_spelled : (f : Framed) (a : Axiom) (here : In a O) → In f (is.formed a here).clauses → In f (spelled w O)
    unfolding spelled
    to_spelled f a here has =
        In-flat_map (λ (one : Axiom). unwrap_or (clauses_for w declared one) []) f O a here
        (subst (λ (o : Option (List Framed)). In f (unwrap_or o [])) (sym (is.formed a here).spelled) has)

    pub record HasPlain (f : Framed) : Type 0 where
      pub ontology : bytes_eq f.clause.tag (codes "ontology") ≡ false
      pub metadata : bytes_eq f.clause.tag (codes "is_metadata_tag") ≡ false
      pub import : bytes_eq f.clause.tag (codes "import") ≡ false

    plain_of : (f : Framed) → PlainTag f.clause.tag → HasPlain f
    plain_of f tag = record { ontology = tag.ontology; metadata = tag.metadata; import = tag.import }

    -- the tags of spelled clauses
    pub spelled_tag : (f : Framed) → In f (spelled w O) → HasPlain f ⊎ ((of : IsOf f) × IsMetadataClause (reading_in space) w (Agree-in space) declared of.one f)
    spelled_tag f here = by_shape (is_of f here) (shape (reading_in space) w (Agree-in space) declared (is_of f here).one (is.formed (is_of f here).one (is_of f here).among) f (is_of f here).has)
      where
        by_shape : (of : IsOf f) → Shape (reading_in space) w (Agree-in space) declared of.one f → HasPlain f ⊎ ((of : IsOf f) × IsMetadataClause (reading_in space) w (Agree-in space) declared of.one f)
        by_shape of (inl (inl id)) = inl (subst HasPlain id.same (plain_of (framed (frame_kind id.name.kind) id.id (id_clause id.id)) id_tag))
        by_shape of (inl (inr (inl meta))) = inr (of, meta)
        by_shape of (inl (inr (inr (inl note)))) = inl (plain_of f (note_tag f.clause note.note))
        by_shape of (inl (inr (inr (inr one)))) = inl (subst HasPlain one.same (plain_of (framed (frame_kind one.kind) one.id one.clause) (statement_tag (frame_kind one.kind) one.clause one.says)))
        by_shape of (inr one) =
            let off = group_clause w one.iri one.group of.one one.clauses one.spelled one.clause one.among in
            inl (subst HasPlain one.same (record {
              ontology = ap (λ t. bytes_eq t (codes "ontology")) off.tag ∙ no_ontology one.group;
              metadata = ap (λ t. bytes_eq t (codes "is_metadata_tag")) off.tag ∙ no_metadata one.group;
              import = ap (λ t. bytes_eq t (codes "import")) off.tag ∙ no_import one.group;
            }))

    -- ---- the name

    abbrev named : Framed → Option (List ℕ)
    named one = where_true (is_header one && has_tag (codes "ontology") one) (option_map normalised (word_in one.clause.value))

    pub from_header : (f : Framed) → In f (header_with names) → (f ≡ format_clause) ⊎ ((name : List ℕ) × In name names × (name_clause name ≡ f))
    from_header f here = ⊎_elim (λ same. inl (sym same)) (λ later. inr (In-from_map name_clause f names later)) here

    not_named : (f : Framed) (x : List ℕ) → bytes_eq f.clause.tag (codes "ontology") ≡ false → named f ≡ Some x → ⊥
    not_named f x tag found =
        let test = where_true_some (is_header f && has_tag (codes "ontology") f) (option_map normalised (word_in f.clause.value)) x found in
        both_ways (has_tag (codes "ontology") f) tag (and_parts (is_header f) (has_tag (codes "ontology") f) test.0).1

    pub same_names : SameMembers (names_in D) names
    same_names x = (
      (λ here.
          let f = In-from_filter_map named x D here in
          ⊎_elim
          (λ head. ⊎_elim
          (λ format. absurd (none-some x (sym (ap named format) ∙ f.2)))
          (λ name. subst (λ n. In n names) (sym (is.normal name.0 name.1) ∙ same_Some (normalised name.0) x (ap named name.2 ∙ f.2)) name.1)
          (from_header f.0 head))
          (λ more. ⊎_elim
          (λ kept_here.
          let test = where_true_some (is_header f.0 && has_tag (codes "ontology") f.0) (option_map normalised (word_in f.0.clause.value)) x f.2 in
          absurd (none-some x (sym (ap (option_map normalised) (nameless.ontology f.0 kept_here test.0)) ∙ test.1)))
          (λ spelled_here. ⊎_elim
          (λ plain. absurd (not_named f.0 x plain.ontology f.2))
          (λ meta. absurd (none-some x (sym (ap named (sym meta.1.same)) ∙ f.2)))
          (spelled_tag f.0 spelled_here))
          (In-append f.0 K (spelled w O) more))
          (In-append f.0 (header_with names) (K ++ spelled w O) f.1)),
      (λ here. In-filter_map named x D (name_clause x) (In-append_left (name_clause x) (header_with names) (K ++ spelled w O) (inr (In-map name_clause x names here))) (ap Some (is.normal x here))),
    )

    pub space_is : space_of D ≡ space
    space_is = ap (λ sorted. name_or_temp (first_part sorted)) (same_sorted (names_in D) names same_names)

    pub agrees : Agree (situation_of D).reading w
    unfolding situation_of
    agrees = subst (λ s. Agree (reading_in s) w) (sym space_is) (Agree-in space)

    -- ---- which names are annotation properties

    abbrev declares_metadata : Framed → Bool
    declares_metadata one = is_typedef one.frame && has_tag (codes "is_metadata_tag") one && is_truth_value true one.clause.value

    metadata_among : (f : Framed) → In f D → declares_metadata f ≡ true → (iri : List ℕ) × (id : List ℕ) × In (name_as kinds.AnnotationProperty iri) declared × (w.id iri ≡ Some id) × (f.id ≡ id)
    metadata_among f here test =
        let parts = and_parts (is_typedef f.frame && has_tag (codes "is_metadata_tag") f) (is_truth_value true f.clause.value) test in
        let more = and_parts (is_typedef f.frame) (has_tag (codes "is_metadata_tag") f) parts.0 in
        ⊎_elim
        (λ head. ⊎_elim
        (λ format. let h : false ≡ true = sym (ap declares_metadata format) ∙ test in absurd (cc))
        (λ name. let h : false ≡ true = ap declares_metadata name.2 ∙ test in absurd (cc))
        (from_header f head))
        (λ more_here. ⊎_elim
        (λ kept_here. absurd (both_ways (declares_metadata f) (nameless.metadata f kept_here) test))
        (λ spelled_here. ⊎_elim
        (λ plain. absurd (both_ways (has_tag (codes "is_metadata_tag") f) plain.metadata more.1))
        (λ meta.
        let one = meta.1 in
        (one.iri, one.id, In-filter_map declared_in (name_as kinds.AnnotationProperty one.iri) O meta.0.one meta.0.among (Rattle.obo_mapping.proofs.SpelledLaw.name_declared meta.0.one (name_as kinds.AnnotationProperty one.iri) one.says), one.has, ap (λ (g : Framed). g.id) (sym one.same)))
        (spelled_tag f spelled_here))
        (In-append f K (spelled w O) more_here))
        (In-append f (header_with names) (K ++ spelled w O) here)

    pub metadata_known : (iri : List ℕ) → is_declared declared (name_as kinds.AnnotationProperty iri) ≡ true → is_metadata (situation_of D) iri ≡ true
    unfolding situation_of
    metadata_known iri known =
        let a = In-from_filter_map declared_in (name_as kinds.AnnotationProperty iri) O (declared_among declared (name_as kinds.AnnotationProperty iri) known) in
        let says = declared_name a.0 (name_as kinds.AnnotationProperty iri) a.2 in
        let formed = is.formed a.0 a.1 in
        ⊎_elim
        (λ alone.
        let id = declared_clauses w declared a.0 formed.clauses (name_as kinds.AnnotationProperty iri) says alone in
        let f = framed Typedef id.0 metadata_clause in
        let among : In f formed.clauses = subst (In f) id.2 (inr (inl refl)) in
        let here = In-append_right f (header_with names) (K ++ spelled w O) (In-append_right f K (spelled w O) (to_spelled f a.0 a.1 among)) in
        let reading = reading_in (space_of D) in
        let there = In-map (λ (one : Framed). reading.iri one.id) f (filter declares_metadata D) (In-filter declares_metadata f D here refl) in
        any_from_in (bytes_eq iri) (map (λ (one : Framed). reading.iri one.id) (filter declares_metadata D)) (reading.iri id.0) there
        (ap (bytes_eq iri) (agrees.ids iri id.0 id.1).1 ∙ bytes_eq-refl iri))
        (λ grouped. absurd (no_group_of_name w grouped.1.iri grouped.0 a.0 (name_as kinds.AnnotationProperty iri) grouped.1.clauses says grouped.1.spelled))
        (form_is (reading_in space) w (Agree-in space) declared a.0 formed.clauses formed.spelled)

    -- and no other name is one
    pub metadata_declared : (iri : List ℕ) → is_metadata (situation_of D) iri ≡ true → In (name_as kinds.AnnotationProperty iri) declared
    unfolding situation_of
    metadata_declared iri known =
        let reading = reading_in (space_of D) in
        let m = in_from_any (bytes_eq iri) (map (λ (one : Framed). reading.iri one.id) (filter declares_metadata D)) known in
        let f = In-from_map (λ (one : Framed). reading.iri one.id) m.0 (filter declares_metadata D) m.1 in
        let found = In-from_filter declares_metadata f.0 D f.1 in
        let meta = metadata_among f.0 found.0 found.1 in
        let same : meta.0 ≡ iri = sym (agrees.ids meta.0 meta.1 meta.3).1 ∙ ap reading.iri (sym meta.4) ∙ f.2 ∙ sym (same_bytes iri m.0 m.2) in
        subst (λ i. In (name_as kinds.AnnotationProperty i) declared) same meta.2

    pub knows : Knows (situation_of D) w declared
    knows = record {
      metadata = metadata_known;
      roles = λ iri id known has. false_from_ne_true (is_metadata (situation_of D) ((situation_of D).reading.iri id)) (λ meta.
          let there = metadata_declared ((situation_of D).reading.iri id) meta in
          is.apart iri (declared_among declared (name_as kinds.Role iri) known) (subst (λ i. In (name_as kinds.AnnotationProperty i) declared) (agrees.ids iri id has).1 there));
    }

    -- ---- what the document says

    abbrev S : Situation
    S = situation_of D

    -- what is kept says nothing, and stands in no group that is spelled
    pub record IsSilent : Type 0 where
      pub silent : (f : Framed) → In f K → (is_untranslatable D f ≡ true) ⊎ ((axiom_said S f ≡ None) × (group_said S D f ≡ None))
      pub apart : (f : Framed) (group : Group) (a : Axiom) (clauses : List Clause) → In f K → In a O → group_of f ≡ Some group → group_spelling w (S.reading.iri f.id) group a ≡ Some clauses → ⊥

    module _ (silent : IsSilent) where
      header_beside : (f : Framed) → In f (header_with names) → IsBeside D w O agrees knows f
      header_beside f head =
          ⊎_elim
          (λ format. subst (IsBeside D w O agrees knows) (sym format) (record { silent = inr (header_silent S [] format_clause.clause format_no_form, refl); apart = λ group a clauses here none _. none-some group none }))
          (λ name. subst (IsBeside D w O agrees knows) name.2 (record { silent = inr (header_silent S [] (name_clause name.0).clause ontology_no_form, refl); apart = λ group a clauses here none _. none-some group none }))
          (from_header f head)

      pub spelled_in : IsSpelledIn D w O agrees knows
      spelled_in = record {
        formed = λ a here. let one = is.formed a here in record { clauses = one.clauses; spelled = one.spelled; proper = one.proper; rises = one.rises };
        once = is.once;
        each = λ f here. In-append_right f (header_with names) (K ++ spelled w O) (In-append_right f K (spelled w O) here);
        rest = λ f here.
            ⊎_elim
            (λ head. inr (header_beside f head))
            (λ more. ⊎_elim
            (λ kept_here. inr (record { silent = silent.silent f kept_here; apart = λ group a clauses among has spelled_at. silent.apart f group a clauses kept_here among has spelled_at }))
            (λ spelled_here. inl spelled_here)
            (In-append f K (spelled w O) more))
            (In-append f (header_with names) (K ++ spelled w O) here);
      }

      abbrev pub spaces_kept : List Name
      spaces_kept = filter_map (λ (one : Framed). entity_of S one.frame one.id) (kept_with D (codes "namespace"))

      abbrev pub defaults_kept : List (List ℕ)
      defaults_kept = filter_map (λ (one : Framed). text_in one.clause.value) (kept_with D (codes "default-namespace"))

      -- the law
      pub says_spaced : SameMembers (owl D) (spaced spaces_kept defaults_kept O)
      says_spaced =
          let said = filter_map (axiom_said S) (translated D w O agrees knows spelled_in) ++ filter_map (group_said S D) (translated D w O agrees knows spelled_in) in
          subst (λ o. SameMembers o (spaced spaces_kept defaults_kept O)) (sym (owl_singly D))
          (same_spaced spaces_kept spaces_kept defaults_kept defaults_kept said O (same_refl spaces_kept) (same_refl defaults_kept) (axioms_are D w O agrees knows spelled_in))
