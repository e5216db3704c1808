-- The `id` clauses of a normal form that give an id have that of their frame, and no qualifiers.
use Rattle.std.proofs.Common.{◌≡◌, ℕ, Bool, true, false, not, ◌&&◌, List, ◌++◌, codes, cond, is_some, map, None, inl, inr, ⊎_elim, refl, sym, ap, subst, ◌∙◌}
use Rattle.std.specs.List.{list_any}
use Rattle.std.specs.Option.{IsSome, option_map_or}
use Rattle.std.specs.Str.{bytes_eq}
use Rattle.std.proofs.lemmas.Bool.{and_parts, both_ways, false_from_ne_true, not-true, or_cases}
use Rattle.text_sets.specs.Sets.{In}
use Rattle.text_sets.proofs.PartLemmas.{some_value}
use Rattle.text_sets.proofs.SetLemmas.{In-append}
use Rattle.obo_tags.specs.declared.kind.FrameKind.TheVariants.{Typedef}
use Rattle.obo_clause.specs.declared.clause.Clause.{Clause}
use Rattle.obo_clause.specs.declared.clause.Qualifier.{Qualifier}
use Rattle.obo_clause.specs.declared.clause.Value.{Value}
use Rattle.obo_clause.specs.declared.clause.Value.TheVariants as value
use Rattle.owl_axioms.specs.declared.body.Axiom.{Axiom}
use Rattle.obo_frames.specs.Frames as frames
use Rattle.obo_frames.specs.Framed.{Framed, id_clause, unlined}
use Rattle.obo_frames.specs.Soundness.{IsKept}
use Rattle.obo_frames.specs.declared.placed.Placed.{Placed}
use Rattle.obo_text.proofs.SoundLemmas.{sound_of}
use Rattle.obo_notes.specs.Context.{Reading, Writing, reading_in}
use Rattle.obo_notes.specs.Keys.{is_reserved_key}
use Rattle.obo_notes.proofs.ContextLemmas.{Agree-in}
use Rattle.obo_statements.specs.Groups.{Group, group_tag, intersection, union}
use Rattle.obo_statements.specs.Statements.{statements_of}
use Rattle.obo_statements.proofs.StatementsBack.{all_apart, id_has_no_form, is_apart, passes_in}
use Rattle.obo_mapping.specs.Axioms.{frame_kind, is_metadata}
use Rattle.obo_mapping.specs.Documents.{has_tag, header_with, is_broken, is_header, is_import, is_raw, is_untranslatable, kept, names_in, norm, owl, settled_value, situation_of, space_of, spelled}
use Rattle.obo_mapping.specs.Sound.{IsSound}
use Rattle.obo_mapping.proofs.DocumentLaw as law
use Rattle.obo_mapping.proofs.PlainClauses.{PlainTag, id_tag, is_translatable, no_group, not_tag}
use Rattle.obo_mapping.proofs.SpelledLaw.{id_no_statement}
use Rattle.obo_mapping.proofs.SpelledShapes.{Shape, group_clause, shape}
use Rattle.obo_normal_form.proofs.FormedAxioms.{formed}
use Rattle.obo_normal_form.proofs.NormLaw as norms
use Rattle.obo_normal_form.proofs.SettleLaws as settle
use Rattle.sound_documents.proofs.FrameSound.{AreBare, sound_from}

-- the clause is no `id` clause
abbrev IsOther : Framed → Type 0
IsOther f = bytes_eq f.clause.tag (codes "id") ≡ false

not_other : (f : Framed) → IsOther f → f.clause.tag ≡ codes "id" → ⊥
not_other f isnt tag = both_ways (bytes_eq f.clause.tag (codes "id")) isnt (ap (λ t. bytes_eq t (codes "id")) tag)

-- the clause is the `id` clause of its frame, or none
data IsIdOrOther (f : Framed) : Type 0 where
  own : f.clause ≡ id_clause f.id → IsIdOrOther f
  other : IsOther f → IsIdOrOther f

-- ---- kept clauses

word_kept : (reading : Reading) (writing : Writing) (role literal : Bool) (v : Value) → is_some (frames.word_in (settled_value reading writing role literal v)) ≡ is_some (frames.word_in v)
unfolding settled_value
word_kept reading writing role literal (value.Id word) = refl
word_kept reading writing role literal (value.Pair first second) = refl
word_kept reading writing role literal (value.Text text) = refl
word_kept reading writing role literal (value.Bool truth) = refl
word_kept reading writing role literal (value.Def text xrefs) = refl
word_kept reading writing role literal (value.Synonym text scope type xrefs) = refl
word_kept reading writing role literal (value.XrefValue xref) = refl
word_kept reading writing role literal (value.Literal relation text datatype) = refl
word_kept reading writing role literal (value.Link relation target) = refl
word_kept reading writing role literal (value.SubsetDef word text) = refl
word_kept reading writing role literal (value.SynonymDef word text scope) = refl
word_kept reading writing role literal (value.Raw text) = refl

-- a bare `id` clause is translated, and no import
id_translated : (d : List Framed) (one : Framed) → one.clause ≡ id_clause one.id → is_untranslatable d one ≡ false
id_translated d one is =
    let tag : one.clause.tag ≡ codes "id" = ap (λ (c : Clause). c.tag) is in
    is_translatable d one (record {
      raw = ap (λ (c : Clause). is_raw c.value) is;
      six = ap (λ (c : Clause). list_any (λ (q : Qualifier). is_reserved_key q.key) c.qualifiers) is;
      ontology = ap (λ t. bytes_eq t (codes "ontology")) tag;
      metadata = inr (inr (ap (λ t. Rattle.text_sets.specs.Parts.first_some (Rattle.obo_statements.specs.Statements.statement_in t) (statements_of Typedef)) tag ∙ id_no_statement));
      group = ap (λ o. option_map_or (is_broken (situation_of d) d ((situation_of d).reading.iri one.id)) o false) (no_group one (subst PlainTag (sym tag) id_tag));
    })

id_no_import : (one : Framed) → one.clause ≡ id_clause one.id → is_import one ≡ false
id_no_import one is =
    false_from_ne_true (is_import one) (λ import.
    let a = and_parts (is_header one && has_tag (codes "import") one) (not (is_raw one.clause.value)) import in
    both_ways (has_tag (codes "import") one) (ap (λ (c : Clause). bytes_eq c.tag (codes "import")) is) (and_parts (is_header one) (has_tag (codes "import") one) a.0).1)

module _ (placed : List Placed) (sound_too : IsKept placed) where
  abbrev d : List Framed
  d = map unlined placed

  abbrev sound : IsSound (map unlined placed)
  sound = sound_from placed sound_too

  abbrev K : List Framed
  K = kept d

  abbrev O : List Axiom
  O = owl d

  kept_other : (f : Framed) → In f K → f.clause.tag ≡ codes "id" → (id : List ℕ) → f.clause.value ≡ value.Id id → ⊥
  kept_other f here tag id is =
      let k = norms.is_kept d sound (formed d sound) f here in
      let one = k.one in
      let S = situation_of d in
      let known = is_metadata S (S.reading.iri one.id) in
      let one_tag : one.clause.tag ≡ codes "id" = sym (norms.tag d sound (formed d sound) one) ∙ ap (λ (g : Framed). g.clause.tag) k.same ∙ tag in
      let has_word : is_some (frames.word_in one.clause.value) ≡ true =
      sym (settle.kept_by S.reading (norms.w d sound (formed d sound)) (norms.agree d sound (formed d sound)) (λ v. is_some (frames.word_in v)) known one (λ role literal. word_kept S.reading (norms.w d sound (formed d sound)) role literal one.clause.value))
      ∙ ap (λ (g : Framed). is_some (frames.word_in g.clause.value)) k.same ∙ ap (λ v. is_some (frames.word_in v)) is in
      let word = some_value (frames.word_in one.clause.value) has_word in
      let own = (sound_of placed sound_too).bare one k.among word.0 ((λ i. cond (bytes_eq (one_tag i) (codes "id")) (frames.word_in one.clause.value) None) ∙ word.1) in
      ⊎_elim
      (λ import. both_ways (is_import one) (id_no_import one own) import)
      (λ untranslatable. both_ways (is_untranslatable d one) (id_translated d one own) untranslatable)
      (or_cases (is_import one) (is_untranslatable d one) k.keeps)

  -- ---- spelled clauses

  no_id_group : (g : Group) → bytes_eq (group_tag g) (codes "id") ≡ false
  no_id_group intersection = refl
  no_id_group union = refl

  spelled_either : (f : Framed) (a : Axiom) → Shape (reading_in (space_of d)) (law.w (names_in d) K O) (Agree-in (space_of d)) (law.declared (names_in d) K O) a f → IsIdOrOther f
  spelled_either f a (inl (inl is)) = subst IsIdOrOther is.same (own refl)
  spelled_either f a (inl (inr (inl is))) = subst IsIdOrOther is.same (other refl)
  spelled_either f a (inl (inr (inr (inl is)))) = other (not_tag f.clause.tag (codes "id") is.note.form id_has_no_form is.note.has)
  spelled_either f a (inl (inr (inr (inr is)))) =
      let apart = and_parts (Rattle.std.specs.Option.is_none (Rattle.obo_notes.specs.Notes.form_of is.says.row.tag)) (not (bytes_eq is.says.row.tag (codes "id"))) (passes_in is_apart (statements_of (frame_kind is.kind)) is.says.row (all_apart (frame_kind is.kind)) is.says.among) in
      subst IsIdOrOther is.same (other (ap (λ t. bytes_eq t (codes "id")) (sym is.says.same) ∙ not-true (bytes_eq is.says.row.tag (codes "id")) apart.1))
  spelled_either f a (inr is) =
      let off = group_clause (law.w (names_in d) K O) is.iri is.group a is.clauses is.spelled is.clause is.among in
      subst IsIdOrOther is.same (other (ap (λ t. bytes_eq t (codes "id")) off.tag ∙ no_id_group is.group))

  by_either : (f : Framed) → IsIdOrOther f → f.clause.tag ≡ codes "id" → f.clause ≡ id_clause f.id
  by_either f (own is) tag = is
  by_either f (other isnt) tag = absurd (not_other f isnt tag)

  header_other : (f : Framed) → In f (header_with (names_in d)) → IsOther f
  header_other f here =
      ⊎_elim
      (λ format. subst IsOther (sym format) refl)
      (λ name. subst IsOther name.2 refl)
      (law.from_header (names_in d) K O (norms.spellable d sound (formed d sound)) (norms.nameless d sound (formed d sound)) f here)

  pub bare_norm : AreBare (norm (map unlined placed))
  unfolding norm
  bare_norm f here tag id is =
      let spellable = norms.spellable d sound (formed d sound) in
      let nameless = norms.nameless d sound (formed d sound) in
      let w = law.w (names_in d) K O in
      ⊎_elim
      (λ head. absurd (not_other f (header_other f head) tag))
      (λ more. ⊎_elim
      (λ kept_one. absurd (kept_other f kept_one tag id is))
      (λ spelled_one.
      let of = law.is_of (names_in d) K O spellable nameless f spelled_one in
      by_either f (spelled_either f of.one (shape (reading_in (space_of d)) w (Agree-in (space_of d)) (law.declared (names_in d) K O) of.one (spellable.formed of.one of.among) f of.has)) tag)
      (In-append f K (spelled w O) more))
      (In-append f (header_with (names_in d)) (K ++ spelled w O) here)
