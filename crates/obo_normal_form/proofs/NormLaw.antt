-- The normal form of a document says what the document says, and keeps what it keeps.
use Rattle.std.proofs.Common.{◌≡◌, ◌⊎◌, ℕ, Bool, true, false, not, ◌&&◌, ◌||◌, List, ◌++◌, codes, map, is_some, Option, None, Some, inl, inr, ⊎_elim, refl, sym, ap, subst, ◌∙◌}
use Rattle.std.specs.List.{filter, filter_map, list_any}
use Rattle.std.specs.Option.{option_map, option_map_or, option_to_list}
use Rattle.std.specs.Str.{bytes_eq}
use Rattle.std.proofs.lemmas.Bool.{and_parts, both_ways, cases_Bool, false_from_ne_true, not-true, or_cases}
use Rattle.iri_map.proofs.CandidateLemmas.{bytes_eq-refl}
use Rattle.iri_map.specs.Ontology.{normalised}
use Rattle.iri_map.proofs.OntologyLemmas.{NameIsSettled-all}
use Rattle.obo_tags.specs.declared.kind.FrameKind.{FrameKind}
use Rattle.obo_tags.specs.declared.kind.FrameKind.TheVariants.{Header, Instance, Term, Typedef}
use Rattle.obo_clause.specs.Spelling.{shape_at}
use Rattle.obo_clause.specs.declared.clause.Clause.{Clause}
use Rattle.obo_clause.specs.declared.clause.Value.{Value}
use Rattle.obo_clause.specs.declared.clause.Value.TheVariants as value
use Rattle.owl_axioms.specs.declared.body.Axiom.{Axiom}
use Rattle.owl_axioms.specs.declared.name.Kind.TheVariants as kinds
use Rattle.text_sets.specs.Parts.{first_some}
use Rattle.text_sets.proofs.SortedLemmas.{same_sorted}
use Rattle.text_sets.proofs.SetLemmas.{In-append, In-append_left, In-append_right, In-filter, In-filter_map, In-from_filter, In-from_filter_map, In-from_map, In-map, same_append, same_refl, same_trans}
use Rattle.text_sets.specs.Sets.{In, SameMembers}
use Rattle.text_sets.specs.Sorted.{sorted_by}
use Rattle.text_sets.proofs.PartLemmas.{option_cases, option_map_some}
use Rattle.obo_frames.specs.Framed.{Framed, framed}
use Rattle.obo_mapping.specs.Axioms.{Situation, axiom_said, entity_of, is_metadata, name_as, ontology_axiom, said_at}
use Rattle.obo_notes.specs.Context.{Agree, Reading, Writing, reading_in, where_true, writing_in}
use Rattle.obo_mapping.specs.Documents.{as_kept, declared_in, group_in, group_of, group_said, group_with, has_reserved_key, has_tag, header_with, is_broken, is_header, is_import, is_misfit, is_of_metadata, is_other_name, is_raw, is_said_elsewhere, is_term, is_truth_value, is_typedef, is_untranslatable, kept, kept_with, name_of, names_in, norm, owl, situation_of, spaced, space_of, spelled, text_in, word_in}
use Rattle.obo_notes.specs.Forms.{first_part}
use Rattle.obo_notes.specs.Notes.{form_of}
use Rattle.obo_mapping.specs.Sound.{IsSound}
use Rattle.obo_statements.specs.Statements.{statement_in, statements_of}
use Rattle.obo_statements.specs.Groups.{Group, group_spelling, group_tag, intersection, union}
use Rattle.obo_notes.proofs.ContextLemmas.{Agree-in}
use Rattle.obo_mapping.proofs.SaidSingly.{owl_singly}
use Rattle.obo_mapping.proofs.DocumentLaw as law
use Rattle.obo_normal_form.proofs.GroupSource.{group_once, group_source}
use Rattle.obo_notes.proofs.Guards.{same_bytes, where_true_some}
use Rattle.obo_mapping.proofs.OfSet.{any_from_in, in_from_any, spelled_of_set}
use Rattle.obo_normal_form.proofs.OwlCases as source
use Rattle.obo_mapping.proofs.PlainClauses.{import_no_form, no_note}
use Rattle.obo_normal_form.proofs.SettleLaws as settle
use Rattle.obo_mapping.proofs.SpacedLaws.{same_spaced, spaced_again}
use Rattle.obo_mapping.proofs.SpelledLaw.{is_declared_from, spelled_translated, tag_of_group}
use Rattle.obo_mapping.proofs.SpelledShapes.{IsFormed}

-- ---- tests of four parts

pub or_first : (a b c e : Bool) → a ≡ true → (a || b || c || e) ≡ true
or_first a b c e is = λ i. is i || b || c || e

pub or_second : (a b c e : Bool) → b ≡ true → (a || b || c || e) ≡ true
or_second true b c e is = refl
or_second false b c e is = λ i. is i || c || e

or_third : (a b c e : Bool) → c ≡ true → (a || b || c || e) ≡ true
or_third true b c e is = refl
or_third false true c e is = refl
or_third false false c e is = λ i. is i || e

abbrev pub OneOf : Bool → Bool → Bool → Bool → Type 0
OneOf a b c e = (a ≡ true) ⊎ ((b ≡ true) ⊎ ((c ≡ true) ⊎ (e ≡ true)))

pub one_of : (a b c e : Bool) → (a || b || c || e) ≡ true → OneOf a b c e
one_of true b c e is = inl refl
one_of false true c e is = inr (inl refl)
one_of false false true e is = inr (inr (inl refl))
one_of false false false e is = inr (inr (inr is))

elsewhere_true : (a b c e g : Bool) → a ≡ false → c ≡ true → g ≡ true → (not a && (b || (c && (e || g)))) ≡ true
elsewhere_true a true c e g x y z = λ i. not (x i) && (true || (c && (e || g)))
elsewhere_true a false c true g x y z = λ i. not (x i) && (false || (y i && (true || g)))
elsewhere_true a false c false g x y z = λ i. not (x i) && (false || (y i && (false || z i)))

elsewhere_false : (a b c e g : Bool) → b ≡ false → e ≡ false → g ≡ false → (not a && (b || (c && (e || g)))) ≡ false
elsewhere_false true b c e g x y z = refl
elsewhere_false false b true e g x y z = λ i. x i || (true && (y i || z i))
elsewhere_false false b false e g x y z = λ i. x i || false

pub elsewhere_not_header : (a b c e g : Bool) → b ≡ false → c ≡ false → (not a && (b || (c && (e || g)))) ≡ false
elsewhere_not_header true b c e g x y = refl
elsewhere_not_header false b c e g x y = λ i. x i || (y i && (e || g))

word_not_raw : (p : List ℕ → Bool) (v : Value) → option_map_or p (word_in v) false ≡ true → is_raw v ≡ false
word_not_raw p (value.Raw text) is = let h : false ≡ true = is in absurd (cc)
word_not_raw p _ is = refl

raw_is : (v : Value) → is_raw v ≡ true → (word_in v ≡ None) × (is_truth_value true v ≡ false)
raw_is (value.Raw text) is = (refl, refl)
raw_is _ is = let h : false ≡ true = is in absurd (cc)

pub term_no_header : (kind : FrameKind) (id : List ℕ) (c : Clause) → is_term kind ≡ true → is_header (framed kind id c) ≡ false
term_no_header Term id c is = refl
term_no_header Typedef id c is = refl
term_no_header Instance id c is = refl
term_no_header Header id c is = let h : false ≡ true = is in absurd (cc)

pub term_no_typedef : (kind : FrameKind) → is_term kind ≡ true → is_typedef kind ≡ false
term_no_typedef Term is = refl
term_no_typedef Header is = let h : false ≡ true = is in absurd (cc)
term_no_typedef Typedef is = let h : false ≡ true = is in absurd (cc)
term_no_typedef Instance is = let h : false ≡ true = is in absurd (cc)

header_entity : (situation : Situation) (kind : FrameKind) (id : List ℕ) (c : Clause) → is_header (framed kind id c) ≡ true → (entity_of situation kind id ≡ None) × (is_term kind ≡ false)
header_entity situation Header id c is = (refl, refl)
header_entity situation Term id c is = let h : false ≡ true = is in absurd (cc)
header_entity situation Typedef id c is = let h : false ≡ true = is in absurd (cc)
header_entity situation Instance id c is = let h : false ≡ true = is in absurd (cc)

pub group_no_metadata : (group : Group) → bytes_eq (group_tag group) (codes "is_metadata_tag") ≡ false
group_no_metadata intersection = refl
group_no_metadata union = refl

module _ (d : List Framed) (sound : IsSound d) (formed : (a : Axiom) → In a (owl d) → IsFormed (reading_in (space_of d)) (writing_in (space_of d)) (Agree-in (space_of d)) (filter_map declared_in (owl d)) a) where
  abbrev pub S : Situation
  S = situation_of d

  abbrev pub w : Writing
  w = writing_in (space_of d)

  pub agree : Agree (situation_of d).reading w
  unfolding situation_of
  agree = Agree-in (space_of d)

  pub role_same : (x : List ℕ) → (situation_of d).reading.role_iri x ≡ (situation_of d).reading.iri x
  unfolding situation_of
  role_same x = refl

  abbrev pub names : List (List ℕ)
  names = names_in d

  abbrev pub K : List Framed
  K = kept d

  abbrev pub O : List Axiom
  O = owl d

  abbrev pub D : List Framed
  D = law.D names K O

  -- ---- what is kept

  pub record IsKept (f : Framed) : Type 0 where
    pub one : Framed
    pub among : In one d
    pub keeps : (is_import one || is_untranslatable d one) ≡ true
    pub elsewhere : is_said_elsewhere one ≡ false
    pub same : as_kept S w one ≡ f

  pub is_kept : (f : Framed) → In f K → IsKept f
  unfolding kept
  is_kept f here =
      let one = In-from_map (as_kept S w) f (filter (λ one. (is_import one || is_untranslatable d one) && not (is_said_elsewhere one)) d) here in
      let found = In-from_filter (λ one. (is_import one || is_untranslatable d one) && not (is_said_elsewhere one)) one.0 d one.1 in
      let parts = and_parts (is_import one.0 || is_untranslatable d one.0) (not (is_said_elsewhere one.0)) found.1 in
      record { one = one.0; among = found.0; keeps = parts.0; elsewhere = not-true (is_said_elsewhere one.0) parts.1; same = one.2 }

  pub in_kept : (one : Framed) → In one d → (is_import one || is_untranslatable d one) ≡ true → is_said_elsewhere one ≡ false → In (as_kept S w one) K
  unfolding kept
  in_kept one here keeps elsewhere =
      In-map (as_kept S w) one (filter (λ one. (is_import one || is_untranslatable d one) && not (is_said_elsewhere one)) d)
      (In-filter (λ one. (is_import one || is_untranslatable d one) && not (is_said_elsewhere one)) one d here (λ i. keeps i && not (elsewhere i)))

  pub kept_here : (f : Framed) → In f K → In f D
  kept_here f here = In-append_right f (header_with names) (K ++ spelled w O) (In-append_left f K (spelled w O) here)

  -- ---- a kept clause is like the clause

  abbrev known : Framed → Bool
  known one = is_metadata S (S.reading.iri one.id)

  pub tag : (one : Framed) → (as_kept S w one).clause.tag ≡ one.clause.tag
  tag one = settle.kept_tag S.reading w agree (known one) one

  pub raw : (one : Framed) → is_raw (as_kept S w one).clause.value ≡ is_raw one.clause.value
  raw one = settle.kept_raw S.reading w agree (known one) one

  truth : (one : Framed) → is_truth_value false (as_kept S w one).clause.value ≡ is_truth_value false one.clause.value
  truth one = settle.kept_truth S.reading w agree (known one) one

  six : (one : Framed) → In one d → has_reserved_key (as_kept S w one) ≡ has_reserved_key one
  six one here =
      let fits = sound.fits one here in
      settle.kept_six S.reading w agree (known one) one (λ q among. settle.fits_quals (shape_at one.frame (has_tag (codes "id") one && not (is_raw one.clause.value)) one.clause.tag) one.clause.qualifiers fits.qualifiers q among)

  import_like : (one : Framed) → is_import (as_kept S w one) ≡ is_import one
  import_like one = let t = tag one in let r = raw one in λ i. is_header one && bytes_eq (t i) (codes "import") && not (r i)

  misfit_like : (one : Framed) → In one d → is_misfit (as_kept S w one) ≡ is_misfit one
  misfit_like one here = let r = raw one in let s = six one here in let m = import_like one in let t = truth one in λ i. r i || (s i && not (m i || t i))

  pub group_like : (one : Framed) → group_of (as_kept S w one) ≡ group_of one
  group_like one = let r = raw one in let t = tag one in λ i. where_true (is_term one.frame && not (r i)) (group_with (t i))

  elsewhere_like : (one : Framed) → is_said_elsewhere (as_kept S w one) ≡ is_said_elsewhere one
  elsewhere_like one = let r = raw one in let t = tag one in
      λ i. not (r i) && (bytes_eq (t i) (codes "is_metadata_tag") || (is_header one && (bytes_eq (t i) (codes "format-version") || bytes_eq (t i) (codes "ontology"))))

  -- ---- the names of the normal form

  normal : (name : List ℕ) → In name names → normalised name ≡ name
  normal name here =
      let f = In-from_filter_map (λ one. where_true (is_header one && has_tag (codes "ontology") one) (option_map normalised (word_in one.clause.value))) name d here in
      let test = where_true_some (is_header f.0 && has_tag (codes "ontology") f.0) (option_map normalised (word_in f.0.clause.value)) name f.2 in
      let word = option_map_some normalised (word_in f.0.clause.value) name test.1 in
      subst (λ n. normalised n ≡ n) word.2 (NameIsSettled-all word.0).once

  pub spellable : law.IsSpellable names K O
  spellable = record {
    normal = normal;
    formed = formed;
    apart = λ iri role meta. both_ways (is_metadata S iri) (source.role_is_none d iri role) (source.metadata_known d iri meta);
    once = λ x group a b some others here there one other. group_once d w x group a b some others here there one other;
  }

  kept_ontology : (f : Framed) → In f K → (is_header f && has_tag (codes "ontology") f) ≡ true → word_in f.clause.value ≡ None
  kept_ontology f here test =
      let k = is_kept f here in
      let one = k.one in
      let parts = and_parts (is_header f) (has_tag (codes "ontology") f) test in
      let header : is_header one ≡ true = ap is_header k.same ∙ parts.0 in
      let tagged : has_tag (codes "ontology") one ≡ true = ap (λ t. bytes_eq t (codes "ontology")) (sym (tag one) ∙ ap (λ (g : Framed). g.clause.tag) k.same) ∙ parts.1 in
      ⊎_elim
      (λ is_raw_one. (raw_is f.clause.value (ap (λ (g : Framed). is_raw g.clause.value) (sym k.same) ∙ raw one ∙ is_raw_one)).0)
      (λ isnt. absurd (both_ways (is_said_elsewhere one) k.elsewhere (elsewhere_true (is_raw one.clause.value) (has_tag (codes "is_metadata_tag") one) (is_header one) (has_tag (codes "format-version") one) (has_tag (codes "ontology") one) isnt header tagged)))
      (cases_Bool (is_raw one.clause.value))

  abbrev declares_metadata : Framed → Bool
  declares_metadata f = is_typedef f.frame && has_tag (codes "is_metadata_tag") f && is_truth_value true f.clause.value

  kept_metadata : (f : Framed) → In f K → declares_metadata f ≡ false
  kept_metadata f here = false_from_ne_true (declares_metadata f) (λ test.
      let k = is_kept f here in
      let one = k.one in
      let parts = and_parts (is_typedef f.frame && has_tag (codes "is_metadata_tag") f) (is_truth_value true f.clause.value) test in
      let more = and_parts (is_typedef f.frame) (has_tag (codes "is_metadata_tag") f) parts.0 in
      let tagged : has_tag (codes "is_metadata_tag") one ≡ true = ap (λ t. bytes_eq t (codes "is_metadata_tag")) (sym (tag one) ∙ ap (λ (g : Framed). g.clause.tag) k.same) ∙ more.1 in
      ⊎_elim
      (λ is_raw_one. both_ways (is_truth_value true f.clause.value) (raw_is f.clause.value (ap (λ (g : Framed). is_raw g.clause.value) (sym k.same) ∙ raw one ∙ is_raw_one)).1 parts.1)
      (λ isnt. both_ways (is_said_elsewhere one) k.elsewhere (λ i. not (isnt i) && (tagged i || (is_header one && (has_tag (codes "format-version") one || has_tag (codes "ontology") one)))))
      (cases_Bool (is_raw one.clause.value)))

  pub nameless : law.IsNameless names K O
  nameless = record { ontology = kept_ontology; metadata = kept_metadata }

  -- ---- the situation of the normal form

  abbrev pub S' : Situation
  S' = situation_of D

  same_space : space_of D ≡ space_of d
  same_space = law.space_is names K O spellable nameless

  pub same_reading : (situation_of D).reading ≡ (situation_of d).reading
  unfolding situation_of
  same_reading = ap reading_in same_space

  same_metadata : (iri : List ℕ) → is_metadata S' iri ≡ is_metadata S iri
  same_metadata iri =
      ⊎_elim
      (λ yes. law.metadata_known names K O spellable nameless iri (is_declared_from (filter_map declared_in O) (name_as kinds.AnnotationProperty iri) (source.metadata_declared d sound iri yes)) ∙ sym yes)
      (λ isnt. false_from_ne_true (is_metadata S' iri) (λ is. both_ways (is_metadata S iri) isnt (source.metadata_known d iri (law.metadata_declared names K O spellable nameless iri is))) ∙ sym isnt)
      (cases_Bool (is_metadata S iri))

  pub iri_like : (one : Framed) → S'.reading.iri (as_kept S w one).id ≡ S.reading.iri one.id
  iri_like one = ap (λ (r : Reading). r.iri (as_kept S w one).id) same_reading ∙ settle.kept_iri S.reading w agree (known one) one role_same

  known_like : (one : Framed) → is_metadata S' (S'.reading.iri (as_kept S w one).id) ≡ known one
  known_like one = ap (is_metadata S') (iri_like one) ∙ same_metadata (S.reading.iri one.id)

  -- ---- what is not translated is not translated again

  untranslated_misfit : (f : Framed) → is_misfit f ≡ true → (is_import f || is_untranslatable d f) ≡ true
  unfolding is_untranslatable
  untranslated_misfit f is = second (is_import f) (is_untranslatable d f) (or_first (is_misfit f) _ _ _ is)
    where
      second : (a b : Bool) → b ≡ true → (a || b) ≡ true
      second true b is = refl
      second false b is = is

  broken_again : (one : Framed) (g : Group) → group_of one ≡ Some g → is_broken S d (S.reading.iri one.id) g ≡ true → is_broken S' D (S'.reading.iri (as_kept S w one).id) g ≡ true
  broken_again one g has broken =
      let x = S.reading.iri one.id in
      let x' = S'.reading.iri (as_kept S w one).id in
      let bad = in_from_any is_misfit (group_in S d x g) broken in
      let f = bad.0 in
      let found = In-from_filter (λ (each : Framed). is_term each.frame && not (is_raw each.clause.value) && bytes_eq (S.reading.iri each.id) x && has_tag (group_tag g) each) f d bad.1 in
      let a = and_parts (is_term f.frame && not (is_raw f.clause.value) && bytes_eq (S.reading.iri f.id) x) (has_tag (group_tag g) f) found.1 in
      let b = and_parts (is_term f.frame && not (is_raw f.clause.value)) (bytes_eq (S.reading.iri f.id) x) a.0 in
      let c = and_parts (is_term f.frame) (not (is_raw f.clause.value)) b.0 in
      let no_meta : has_tag (codes "is_metadata_tag") f ≡ false = ap (λ t. bytes_eq t (codes "is_metadata_tag")) (same_bytes f.clause.tag (group_tag g) a.1) ∙ group_no_metadata g in
      let elsewhere = elsewhere_not_header (is_raw f.clause.value) (has_tag (codes "is_metadata_tag") f) (is_header f) (has_tag (codes "format-version") f) (has_tag (codes "ontology") f) no_meta (term_no_header f.frame f.id f.clause c.0) in
      let here = kept_here (as_kept S w f) (in_kept f found.0 (untranslated_misfit f bad.2) elsewhere) in
      let r = raw f in let t = tag f in let i' = iri_like f in let o' = iri_like one in
      let test : (is_term f.frame && not (is_raw (as_kept S w f).clause.value) && bytes_eq (S'.reading.iri (as_kept S w f).id) x' && has_tag (group_tag g) (as_kept S w f)) ≡ true =
      (λ i. is_term f.frame && not (r i) && bytes_eq (i' i) (o' i) && bytes_eq (t i) (group_tag g)) ∙ found.1 in
      any_from_in is_misfit (group_in S' D x' g) (as_kept S w f) (In-filter (λ (each : Framed). is_term each.frame && not (is_raw each.clause.value) && bytes_eq (S'.reading.iri each.id) x' && has_tag (group_tag g) each) (as_kept S w f) D here test)
      (misfit_like f found.0 ∙ bad.2)

  pub untranslatable_again : (one : Framed) → In one d → is_untranslatable d one ≡ true → is_said_elsewhere one ≡ false → is_untranslatable D (as_kept S w one) ≡ true
  unfolding is_untranslatable
  untranslatable_again one here is elsewhere =
      let f = as_kept S w one in
      let broken = option_map_or (is_broken S d (S.reading.iri one.id)) (group_of one) false in
      let m' = is_misfit f in
      let b' = option_map_or (is_broken S' D (S'.reading.iri f.id)) (group_of f) false in
      let o' = is_of_metadata S' f in
      let n' = is_other_name D f in
      ⊎_elim
      (λ misfit. or_first m' b' o' n' (misfit_like one here ∙ misfit))
      (λ more. ⊎_elim
      (λ is_bad. ⊎_elim
      (λ none. let h : false ≡ true = sym (ap (λ o. option_map_or (is_broken S d (S.reading.iri one.id)) o false) none) ∙ is_bad in absurd (cc))
      (λ some.
      let was : is_broken S d (S.reading.iri one.id) some.0 ≡ true = sym (ap (λ o. option_map_or (is_broken S d (S.reading.iri one.id)) o false) some.1) ∙ is_bad in
      or_second m' b' o' n' (ap (λ o. option_map_or (is_broken S' D (S'.reading.iri f.id)) o false) (group_like one ∙ some.1) ∙ broken_again one some.0 some.1 was))
      (option_cases (group_of one)))
      (λ rest. ⊎_elim
      (λ meta. let t = tag one in let k = known_like one in let tr = truth one in
      or_third m' b' o' n' ((λ i. is_typedef one.frame && k i && is_some (first_some (statement_in (t i)) (statements_of Typedef)) && not (tr i)) ∙ meta))
      (λ other.
      let a = and_parts (is_header one && has_tag (codes "ontology") one) _ other in
      let b = and_parts (is_header one) (has_tag (codes "ontology") one) a.0 in
      absurd (both_ways (is_said_elsewhere one) elsewhere (elsewhere_true (is_raw one.clause.value) (has_tag (codes "is_metadata_tag") one) (is_header one) (has_tag (codes "format-version") one) (has_tag (codes "ontology") one) (word_not_raw _ one.clause.value a.1) b.0 b.1)))
      rest)
      more)
      (one_of (is_misfit one) broken (is_of_metadata S one) (is_other_name d one) is)

  -- ---- it says nothing

  import_silent : (one : Framed) → is_import one ≡ true → (axiom_said S' (as_kept S w one) ≡ None) × (group_said S' D (as_kept S w one) ≡ None)
  unfolding axiom_said
  import_silent one is =
      let f = as_kept S w one in
      let a = and_parts (is_header one && has_tag (codes "import") one) (not (is_raw one.clause.value)) is in
      let b = and_parts (is_header one) (has_tag (codes "import") one) a.0 in
      let header = header_entity S' one.frame f.id one.clause b.0 in
      let none = no_note S'.reading f.clause (ap form_of (tag one ∙ same_bytes one.clause.tag (codes "import") b.1) ∙ import_no_form) in (
        ap (said_at S' f) header.0 ∙ ap (option_map ontology_axiom) none,
        λ i. Rattle.std.specs.Option.option_and_then (λ group. Rattle.obo_statements.specs.Groups.group_meaning S'.reading (S'.reading.iri f.id) group (map (λ (each : Framed). each.clause) (group_in S' D (S'.reading.iri f.id) group)))
            (where_true (header.1 i && not (is_raw f.clause.value)) (group_with f.clause.tag)),
      )

  silent : (f : Framed) → In f K → (is_untranslatable D f ≡ true) ⊎ ((axiom_said S' f ≡ None) × (group_said S' D f ≡ None))
  silent f here =
      let k = is_kept f here in
      subst (λ (g : Framed). (is_untranslatable D g ≡ true) ⊎ ((axiom_said S' g ≡ None) × (group_said S' D g ≡ None))) k.same
      (⊎_elim
      (λ import. inr (import_silent k.one import))
      (λ untranslatable. inl (untranslatable_again k.one k.among untranslatable k.elsewhere))
      (or_cases (is_import k.one) (is_untranslatable d k.one) k.keeps))

  -- no kept clause is in a group that is translated
  pub whole_group : (one f : Framed) (x : List ℕ) (g : Group) → In one d → group_of one ≡ Some g → S.reading.iri one.id ≡ x → group_of f ≡ Some g → S.reading.iri f.id ≡ x → is_untranslatable d f ≡ false → is_untranslatable d one ≡ false
  unfolding is_untranslatable
  whole_group one f x g here has iri f_has f_iri free =
      let test = where_true_some (is_term one.frame && not (is_raw one.clause.value)) (group_with one.clause.tag) g has in
      let term = and_parts (is_term one.frame) (not (is_raw one.clause.value)) test.0 in
      let tagged = tag_of_group one.clause.tag g test.1 in
      let in_it : In one (group_in S d x g) = In-filter (λ (each : Framed). is_term each.frame && not (is_raw each.clause.value) && bytes_eq (S.reading.iri each.id) x && has_tag (group_tag g) each) one d here
      ((λ i. test.0 i && bytes_eq (iri i) x && bytes_eq (tagged i) (group_tag g)) ∙ (λ i. bytes_eq-refl x i && bytes_eq-refl (group_tag g) i)) in
      let bad = λ (is : is_broken S d x g ≡ true).
      let at : option_map_or (is_broken S d (S.reading.iri f.id)) (group_of f) false ≡ true = (λ i. option_map_or (is_broken S d (f_iri i)) (f_has i) false) ∙ is in
      both_ways (is_untranslatable d f) free (or_second (is_misfit f) _ _ _ at) in
      false_from_ne_true (is_untranslatable d one) (λ is.
      ⊎_elim
      (λ misfit. bad (any_from_in is_misfit (group_in S d x g) one in_it misfit))
      (λ more. ⊎_elim
      (λ broken. bad (sym (λ i. option_map_or (is_broken S d (iri i)) (has i) false) ∙ broken))
      (λ rest. ⊎_elim
      (λ meta. both_ways (is_of_metadata S one) (λ i. term_no_typedef one.frame term.0 i && known one && is_some (first_some (statement_in one.clause.tag) (statements_of Typedef)) && not (is_truth_value false one.clause.value)) meta)
      (λ other.
      let a = and_parts (is_header one && has_tag (codes "ontology") one) _ other in
      both_ways (is_header one) (term_no_header one.frame one.id one.clause term.0) (and_parts (is_header one) (has_tag (codes "ontology") one) a.0).0)
      rest)
      more)
      (one_of (is_misfit one) (option_map_or (is_broken S d (S.reading.iri one.id)) (group_of one) false) (is_of_metadata S one) (is_other_name d one) is))

  pub apart : (f : Framed) (g : Group) (a : Axiom) (cs : List Clause) → In f K → In a O → group_of f ≡ Some g → group_spelling w (S'.reading.iri f.id) g a ≡ Some cs → ⊥
  apart f g a cs here among has spelled_at =
      let k = is_kept f here in
      let one = k.one in
      let x = S.reading.iri one.id in
      let one_has : group_of one ≡ Some g = sym (group_like one) ∙ ap group_of k.same ∙ has in
      let at : group_spelling w x g a ≡ Some cs = ap (λ y. group_spelling w y g a) (sym (iri_like one) ∙ ap (λ (h : Framed). S'.reading.iri h.id) k.same) ∙ spelled_at in
      let from = group_source d w x g a cs among at in
      let free = whole_group one from.one x g k.among one_has refl from.has from.iri from.free in
      ⊎_elim
      (λ import.
      let p = and_parts (is_header one && has_tag (codes "import") one) (not (is_raw one.clause.value)) import in
      let header = (and_parts (is_header one) (has_tag (codes "import") one) p.0).0 in
      let test = where_true_some (is_term one.frame && not (is_raw one.clause.value)) (group_with one.clause.tag) g one_has in
      both_ways (is_header one) (term_no_header one.frame one.id one.clause (and_parts (is_term one.frame) (not (is_raw one.clause.value)) test.0).0) header)
      (λ untranslatable. both_ways (is_untranslatable d one) free untranslatable)
      (or_cases (is_import one) (is_untranslatable d one) k.keeps)

  pub is_silent : law.IsSilent names K O spellable nameless
  is_silent = record { silent = silent; apart = apart }

  -- ---- the namespaces that are kept

  -- a tag of a frame or the header whose kept clauses still count
  record IsCounted (t : List ℕ) : Type 0 where
    format : bytes_eq (codes "format-version") t ≡ false
    ontology : bytes_eq (codes "ontology") t ≡ false
    import : bytes_eq t (codes "import") ≡ false
    meta : bytes_eq t (codes "is_metadata_tag") ≡ false
    no_format : bytes_eq t (codes "format-version") ≡ false
    no_ontology : bytes_eq t (codes "ontology") ≡ false

  kept_counts : {X : Type 0} (t : List ℕ) → IsCounted t → (h h' : Framed → Option X) → ((one : Framed) → In one d → h' (as_kept S w one) ≡ h one) → SameMembers (filter_map h' (kept_with D t)) (filter_map h (kept_with d t))
  kept_counts t counted h h' same x = (
    (λ here.
        let f = In-from_filter_map h' x (kept_with D t) here in
        let found = In-from_filter (λ (one : Framed). has_tag t one && not (is_raw one.clause.value) && is_untranslatable D one) f.0 D f.1 in
        let a = and_parts (has_tag t f.0 && not (is_raw f.0.clause.value)) (is_untranslatable D f.0) found.1 in
        let b = and_parts (has_tag t f.0) (not (is_raw f.0.clause.value)) a.0 in
        ⊎_elim
        (λ head. absurd (⊎_elim
        (λ format. both_ways (has_tag t f.0) (ap (has_tag t) format ∙ counted.format) b.0)
        (λ name. both_ways (has_tag t f.0) (ap (has_tag t) (sym name.2) ∙ counted.ontology) b.0)
        (law.from_header names K O spellable nameless f.0 head)))
        (λ more. ⊎_elim
        (λ kept_one.
        let k = is_kept f.0 kept_one in
        let one = k.one in
        let tagged : has_tag t one ≡ true = ap (λ u. bytes_eq u t) (sym (tag one) ∙ ap (λ (g : Framed). g.clause.tag) k.same) ∙ b.0 in
        let not_raw : not (is_raw one.clause.value) ≡ true = ap not (sym (raw one) ∙ ap (λ (g : Framed). is_raw g.clause.value) k.same) ∙ b.1 in
        let untranslatable : is_untranslatable d one ≡ true = ⊎_elim
        (λ import.
        let p = and_parts (is_header one && has_tag (codes "import") one) (not (is_raw one.clause.value)) import in
        let tag_is = (and_parts (is_header one) (has_tag (codes "import") one) p.0).1 in
        absurd (both_ways (bytes_eq t (codes "import")) counted.import (ap (λ u. bytes_eq u (codes "import")) (sym (same_bytes one.clause.tag t tagged)) ∙ tag_is)))
        (λ is. is)
        (or_cases (is_import one) (is_untranslatable d one) k.keeps) in
        In-filter_map h x (kept_with d t) one
        (In-filter (λ (each : Framed). has_tag t each && not (is_raw each.clause.value) && is_untranslatable d each) one d k.among (λ i. tagged i && not_raw i && untranslatable i))
        (sym (same one k.among) ∙ ap h' k.same ∙ f.2))
        (λ spelled_one. absurd (both_ways (is_untranslatable D f.0)
        (spelled_translated D w O (law.agrees names K O spellable nameless) (law.knows names K O spellable nameless) (law.spelled_in names K O spellable nameless is_silent) f.0 spelled_one) a.1))
        (In-append f.0 K (spelled w O) more))
        (In-append f.0 (header_with names) (K ++ spelled w O) found.0)),
    (λ here.
        let f = In-from_filter_map h x (kept_with d t) here in
        let one = f.0 in
        let found = In-from_filter (λ (each : Framed). has_tag t each && not (is_raw each.clause.value) && is_untranslatable d each) one d f.1 in
        let a = and_parts (has_tag t one && not (is_raw one.clause.value)) (is_untranslatable d one) found.1 in
        let b = and_parts (has_tag t one) (not (is_raw one.clause.value)) a.0 in
        let tag_is = same_bytes one.clause.tag t b.0 in
        let elsewhere = elsewhere_false (is_raw one.clause.value) (has_tag (codes "is_metadata_tag") one) (is_header one) (has_tag (codes "format-version") one) (has_tag (codes "ontology") one)
        (ap (λ u. bytes_eq u (codes "is_metadata_tag")) tag_is ∙ counted.meta) (ap (λ u. bytes_eq u (codes "format-version")) tag_is ∙ counted.no_format) (ap (λ u. bytes_eq u (codes "ontology")) tag_is ∙ counted.no_ontology) in
        let there = kept_here (as_kept S w one) (in_kept one found.0 (or_untranslatable (is_import one) (is_untranslatable d one) a.1) elsewhere) in
        let again = untranslatable_again one found.0 a.1 elsewhere in
        let u = tag one in let r = raw one in
        let tagged : has_tag t (as_kept S w one) ≡ true = ap (λ v. bytes_eq v t) u ∙ b.0 in
        let not_raw : not (is_raw (as_kept S w one).clause.value) ≡ true = ap not r ∙ b.1 in
        In-filter_map h' x (kept_with D t) (as_kept S w one)
        (In-filter (λ (each : Framed). has_tag t each && not (is_raw each.clause.value) && is_untranslatable D each) (as_kept S w one) D there (λ i. tagged i && not_raw i && again i))
        (same one found.0 ∙ f.2)),
  )
    where
      or_untranslatable : (a b : Bool) → b ≡ true → (a || b) ≡ true
      or_untranslatable true b is = refl
      or_untranslatable false b is = is

  roles_like : (one : Framed) → (situation_of D).reading.role_iri (as_kept S w one).id ≡ (situation_of d).reading.role_iri one.id
  roles_like one = ap (λ (r : Reading). r.role_iri (as_kept S w one).id) same_reading ∙ role_same (as_kept S w one).id ∙ settle.kept_iri S.reading w agree (known one) one role_same ∙ sym (role_same one.id)

  entity_like : (one : Framed) → entity_of S' (as_kept S w one).frame (as_kept S w one).id ≡ entity_of S one.frame one.id
  entity_like one = by_kind one.frame
    where
      by_kind : (kind : FrameKind) → entity_of S' kind (as_kept S w one).id ≡ entity_of S kind one.id
      by_kind Header = refl
      by_kind Term = let x = iri_like one in λ i. Some (name_as kinds.Class (x i))
      by_kind Instance = let x = iri_like one in λ i. Some (name_as kinds.Individual (x i))
      by_kind Typedef = let x = iri_like one in let k = known_like one in let r = roles_like one in
          λ i. Some (Rattle.std.specs.Prelude.cond (k i) (name_as kinds.AnnotationProperty (x i)) (name_as kinds.Role (r i)))

  namespace_counted : IsCounted (codes "namespace")
  namespace_counted = record { format = refl; ontology = refl; import = refl; meta = refl; no_format = refl; no_ontology = refl }

  default_counted : IsCounted (codes "default-namespace")
  default_counted = record { format = refl; ontology = refl; import = refl; meta = refl; no_format = refl; no_ontology = refl }

  owl_spaced : owl d ≡ spaced (source.spaces d) (source.defaults d) (source.said_in d)
  owl_spaced = owl_singly d

  -- the normal form says the same
  said_again : SameMembers (owl D) O
  said_again =
      let for = law.spaces_kept names K O spellable nameless is_silent in
      let texts = law.defaults_kept names K O spellable nameless is_silent in
      let same_for = kept_counts (codes "namespace") namespace_counted (λ one. entity_of S one.frame one.id) (λ one. entity_of S' one.frame one.id) (λ one here. entity_like one) in
      let same_texts = kept_counts (codes "default-namespace") default_counted (λ one. text_in one.clause.value) (λ one. text_in one.clause.value) (λ one here. settle.kept_text S.reading w agree (known one) one) in
      let one = law.says_spaced names K O spellable nameless is_silent in
      let two = same_spaced for (source.spaces d) texts (source.defaults d) O O same_for same_texts (same_refl O) in
      let three = subst (λ o. SameMembers (spaced (source.spaces d) (source.defaults d) o) o) (sym owl_spaced) (spaced_again (source.spaces d) (source.defaults d) (source.said_in d)) in
      same_trans (owl D) (spaced for texts O) O one (same_trans (spaced for texts O) (spaced (source.spaces d) (source.defaults d) O) O two three)

  -- ---- what is kept is kept

  as_kept_like : (f : Framed) → as_kept S' (writing_in (space_of D)) f ≡ as_kept S w f
  as_kept_like f =
      let agree' = law.agrees names K O spellable nameless in
      let known' : is_metadata S' (S'.reading.iri f.id) ≡ is_metadata S (S.reading.iri f.id) = ap (λ (r : Reading). is_metadata S' (r.iri f.id)) same_reading ∙ same_metadata (S.reading.iri f.id) in
      let s = same_space in let r = same_reading in
      λ i. kept_by (r i) (writing_in (s i)) (known' i) f
    where
      kept_by : Reading → Writing → Bool → Framed → Framed
      kept_by reading writing known one =
          framed one.frame
          (Rattle.std.specs.Prelude.cond (is_header one) one.id
          (Rattle.std.specs.Prelude.cond (is_typedef one.frame && not known) (Rattle.obo_mapping.specs.Documents.settled reading.role_iri writing.role_id one.id) (Rattle.obo_mapping.specs.Documents.settled reading.iri writing.id one.id)))
          (Rattle.std.specs.Prelude.cond (is_raw one.clause.value) one.clause (record {
            tag = one.clause.tag;
            value = Rattle.obo_mapping.specs.Documents.settled_value reading writing
                (is_typedef one.frame && not known && not (has_tag (codes "domain") one || has_tag (codes "range") one || has_tag (codes "subset") one || has_tag (codes "consider") one || has_tag (codes "replaced_by") one))
                (has_tag (codes "alt_id") one || has_tag (codes "import") one) one.clause.value;
            qualifiers = sorted_by Rattle.clause_printer.specs.Printing.qualifier_text (map Rattle.obo_mapping.specs.Documents.settled_qualifier one.clause.qualifiers);
          }))

  kept_once : (one : Framed) → as_kept S w (as_kept S w one) ≡ as_kept S w one
  kept_once one =
      let same : is_metadata S (S.reading.iri (as_kept S w one).id) ≡ known one = ap (is_metadata S) (settle.kept_iri S.reading w agree (known one) one role_same) in
      ap (λ k. settle.kept_as S.reading w agree k (as_kept S w one)) same ∙ settle.kept_twice S.reading w agree (known one) one

  header_elsewhere : (f : Framed) → In f (header_with names) → is_said_elsewhere f ≡ true
  header_elsewhere f head =
      ⊎_elim (λ format. ap is_said_elsewhere format) (λ name. ap is_said_elsewhere (sym name.2)) (law.from_header names K O spellable nameless f head)

  spelled_no_import : (f : Framed) → In f (spelled w O) → is_import f ≡ false
  spelled_no_import f here =
      ⊎_elim
      (λ plain. no_tag (is_header f) (has_tag (codes "import") f) (not (is_raw f.clause.value)) plain.import)
      (λ meta. ap is_import (sym meta.1.same))
      (law.spelled_tag names K O spellable nameless f here)
    where
      no_tag : (a b c : Bool) → b ≡ false → (a && b && c) ≡ false
      no_tag true b c is = λ i. is i && c
      no_tag false b c is = refl

  kept_again : SameMembers (kept D) K
  unfolding kept
  kept_again x = (
    (λ here.
        let keeps = λ (one : Framed). (is_import one || is_untranslatable D one) && not (is_said_elsewhere one) in
        let f = In-from_map (as_kept S' (writing_in (space_of D))) x (filter keeps D) here in
        let found = In-from_filter keeps f.0 D f.1 in
        let parts = and_parts (is_import f.0 || is_untranslatable D f.0) (not (is_said_elsewhere f.0)) found.1 in
        ⊎_elim
        (λ head. absurd (both_ways (is_said_elsewhere f.0) (not-true (is_said_elsewhere f.0) parts.1) (header_elsewhere f.0 head)))
        (λ more. ⊎_elim
        (λ kept_one.
        let k = is_kept f.0 kept_one in
        let same : f.0 ≡ x = sym k.same ∙ sym (kept_once k.one) ∙ ap (as_kept S w) k.same ∙ sym (as_kept_like f.0) ∙ f.2 in
        subst (λ g. In g K) same kept_one)
        (λ spelled_one.
        let free = spelled_translated D w O (law.agrees names K O spellable nameless) (law.knows names K O spellable nameless) (law.spelled_in names K O spellable nameless is_silent) f.0 spelled_one in
        let import = spelled_no_import f.0 spelled_one in
        absurd (both_ways (is_import f.0 || is_untranslatable D f.0) (λ i. import i || free i) parts.0))
        (In-append f.0 K (spelled w O) more))
        (In-append f.0 (header_with names) (K ++ spelled w O) found.0)),
    (λ here.
        let keeps = λ (one : Framed). (is_import one || is_untranslatable D one) && not (is_said_elsewhere one) in
        let k = is_kept x here in
        let one = k.one in
        let kept_one : (is_import (as_kept S w one) || is_untranslatable D (as_kept S w one)) ≡ true = ⊎_elim
        (λ import. let m = import_like one in let y : is_import (as_kept S w one) ≡ true = m ∙ import in λ i. y i || is_untranslatable D (as_kept S w one))
        (λ untranslatable. or_right (is_import (as_kept S w one)) (is_untranslatable D (as_kept S w one)) (untranslatable_again one k.among untranslatable k.elsewhere))
        (or_cases (is_import one) (is_untranslatable d one) k.keeps) in
        let elsewhere : is_said_elsewhere (as_kept S w one) ≡ false = elsewhere_like one ∙ k.elsewhere in
        let there = In-map (as_kept S' (writing_in (space_of D))) (as_kept S w one) (filter keeps D) (In-filter keeps (as_kept S w one) D (kept_here (as_kept S w one) (in_kept one k.among k.keeps k.elsewhere)) (λ i. kept_one i && not (elsewhere i))) in
        subst (λ g. In g (map (as_kept S' (writing_in (space_of D))) (filter keeps D))) (as_kept_like (as_kept S w one) ∙ kept_once one ∙ k.same) there),
  )
    where
      or_right : (a b : Bool) → b ≡ true → (a || b) ≡ true
      or_right true b is = refl
      or_right false b is = is

  -- ---- the laws, of the normal form itself

  pub norm_is : norm d ≡ D
  unfolding norm
  norm_is = refl

  -- P3: the name and the axioms
  pub norm_says : (name_of (norm d) ≡ name_of d) × SameMembers (owl (norm d)) (owl d)
  norm_says =
      subst (λ n. (name_of n ≡ name_of d) × SameMembers (owl n) (owl d)) (sym norm_is)
      (ap first_part (same_sorted (names_in D) names (law.same_names names K O spellable nameless)), said_again)

  header_same : (some others : List (List ℕ)) → SameMembers some others → SameMembers (header_with some) (header_with others)
  header_same some others same f = (
    (λ here. ⊎_elim (λ first. inl first) (λ later. inr (let n = In-from_map law.name_clause f some later in subst (λ g. In g (map law.name_clause others)) n.2 (In-map law.name_clause n.0 others ((same n.0).0 n.1)))) here),
    (λ here. ⊎_elim (λ first. inl first) (λ later. inr (let n = In-from_map law.name_clause f others later in subst (λ g. In g (map law.name_clause some)) n.2 (In-map law.name_clause n.0 some ((same n.0).1 n.1)))) here),
  )

  norm_twice : SameMembers (norm D) D
  unfolding norm
  norm_twice =
      let spelled_same : SameMembers (spelled (writing_in (space_of D)) (owl D)) (spelled w O) =
      subst (λ s. SameMembers (spelled (writing_in s) (owl D)) (spelled w O)) (sym same_space) (spelled_of_set w (owl D) O said_again) in
      same_append (header_with (names_in D)) (kept D ++ spelled (writing_in (space_of D)) (owl D)) (header_with names) (K ++ spelled w O)
      (header_same (names_in D) names (law.same_names names K O spellable nameless))
      (same_append (kept D) (spelled (writing_in (space_of D)) (owl D)) K (spelled w O) kept_again spelled_same)

  -- P2: once is enough
  pub norm_once : SameMembers (norm (norm d)) (norm d)
  norm_once = subst (λ n. SameMembers (norm n) n) (sym norm_is) norm_twice
