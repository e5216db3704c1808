-- What is kept is like what was there, and kept once more it stays.
use Rattle.std.proofs.Common.{◌≡◌, ℕ, Bool, true, false, not, ◌&&◌, ◌||◌, List, [], ◌∷◌, codes, map, Option, None, Some, inl, inr, ⊎_elim, refl, sym, ap, subst, ◌∙◌, if◌then◌else◌}
use Rattle.std.specs.List.{list_any}
use Rattle.std.specs.Option.{option_map, unwrap_or}
use Rattle.std.proofs.lemmas.Bool.{both_ways, cases_Bool, cond-false, cond-true, false_from_ne_true}
use Rattle.obo_tags.specs.declared.kind.FrameKind.{FrameKind}
use Rattle.obo_tags.specs.declared.kind.FrameKind.TheVariants.{Header, Instance, Term, Typedef}
use Rattle.obo_tags.specs.declared.kind.ValueShape.{ValueShape}
use Rattle.obo_tags.specs.declared.kind.ValueShape.TheVariants as shapes
use Rattle.obo_clause.specs.declared.clause.Clause.{Clause}
use Rattle.obo_clause.specs.declared.clause.Qualifier.{Qualifier}
use Rattle.obo_clause.specs.declared.clause.Value.{Value}
use Rattle.obo_clause.specs.declared.clause.Value.TheVariants as value
use Rattle.text_sets.proofs.SetLemmas.{In-from_map, In-map}
use Rattle.text_sets.specs.Sets.{AreTold, In}
use Rattle.obo_clause.specs.Fits.{FitBehind, FitsQualifier}
use Rattle.clause_printer.specs.Printing.{qualifier_text, xref_text}
use Rattle.text_sets.specs.Sorted.{sorted_by}
use Rattle.text_sets.proofs.PartLemmas.{option_cases}
use Rattle.text_sets.proofs.SortedLemmas.{sorted_again, sorted_by-each, sorted_by-only}
use Rattle.obo_frames.specs.Framed.{Framed, framed}
use Rattle.obo_notes.specs.Context.{Agree, Reading, Writing, datatype_iri, datatype_word}
use Rattle.obo_mapping.specs.Documents.{has_reserved_key, has_tag, is_header, is_raw, is_truth_value, is_typedef, settled, settled_qualifier, settled_value, text_in}
use Rattle.obo_notes.specs.Keys.{is_reserved_key, key_of, key_property}
use Rattle.obo_notes.proofs.FormBacks.{datatype_word-back}
use Rattle.obo_notes.proofs.KeyCovers.{test_from_IsText}
use Rattle.obo_notes.proofs.KeyLemmas.{FitsKey, key_of-back}
use Rattle.obo_notes.proofs.NoteLaws.{same_qualifier}
use Rattle.obo_mapping.proofs.OfSet.{any_from_in, in_from_any}
use Rattle.obo_notes.proofs.PartCovers.{All-In}

-- ---- one word

abbrev pub Gives : (List ℕ → List ℕ) → (List ℕ → Option (List ℕ)) → Type 0
Gives read write = (x y : List ℕ) → write x ≡ Some y → read y ≡ x

pub settled_reads : (read : List ℕ → List ℕ) (write : List ℕ → Option (List ℕ)) → Gives read write → (id : List ℕ) → read (settled read write id) ≡ read id
settled_reads read write gives id =
    ⊎_elim
    (λ none. ap (λ o. read (unwrap_or o id)) none)
    (λ some. ap (λ o. read (unwrap_or o id)) some.1 ∙ gives (read id) some.0 some.1)
    (option_cases (write (read id)))

settled_twice : (read : List ℕ → List ℕ) (write : List ℕ → Option (List ℕ)) → Gives read write → (id : List ℕ) → settled read write (settled read write id) ≡ settled read write id
settled_twice read write gives id =
    ⊎_elim
    (λ none. ap (settled read write) (ap (λ o. unwrap_or o id) none))
    (λ some.
    let is : settled read write id ≡ some.0 = ap (λ o. unwrap_or o id) some.1 in
    ap (λ x. unwrap_or (write x) (settled read write id)) (settled_reads read write gives id) ∙ ap (λ o. unwrap_or o (settled read write id)) some.1 ∙ sym is)
    (option_cases (write (read id)))

-- ---- keys

key_again : (q : Qualifier) → is_reserved_key q.key ≡ false → settled_qualifier (settled_qualifier q) ≡ settled_qualifier q
key_again q plain =
    let once : settled_qualifier q ≡ record q { key = unwrap_or (key_of (key_property q.key)) q.key } = cond-false _ _ _ plain in
    ⊎_elim
    (λ none.
    let same : settled_qualifier q ≡ q = once ∙ ap (λ o. let r : Qualifier = record q { key = unwrap_or o q.key } in r) none in
    ap settled_qualifier same)
    (λ some.
    let back = key_of-back (key_property q.key) some.0 some.1 in
    let q' : Qualifier = record q { key = some.0 } in
    let same : settled_qualifier q ≡ q' = once ∙ ap (λ o. let r : Qualifier = record q { key = unwrap_or o q.key } in r) some.1 in
    ap settled_qualifier same ∙ cond-false _ _ _ back.1 ∙ (λ i. record q { key = unwrap_or (key_of (back.2 i)) some.0 }) ∙ (λ i. record q { key = unwrap_or (some.1 i) some.0 }) ∙ sym same)
    (option_cases (key_of (key_property q.key)))

qualifier_again : (q : Qualifier) → settled_qualifier (settled_qualifier q) ≡ settled_qualifier q
qualifier_again q =
    ⊎_elim (λ six. let same : settled_qualifier q ≡ q = cond-true _ _ _ six in ap settled_qualifier same) (λ plain. key_again q plain) (cases_Bool (is_reserved_key q.key))

settled_six : (q : Qualifier) → is_reserved_key (settled_qualifier q).key ≡ is_reserved_key q.key
settled_six q =
    ⊎_elim
    (λ six. ap (λ (r : Qualifier). is_reserved_key r.key) (cond-true (is_reserved_key q.key) q (record q { key = unwrap_or (key_of (key_property q.key)) q.key }) six))
    (λ plain.
    let once : settled_qualifier q ≡ record q { key = unwrap_or (key_of (key_property q.key)) q.key } = cond-false _ _ _ plain in
    ap (λ (r : Qualifier). is_reserved_key r.key) once
    ∙ ⊎_elim
    (λ none. ap (λ o. is_reserved_key (unwrap_or o q.key)) none)
    (λ some. ap (λ o. is_reserved_key (unwrap_or o q.key)) some.1 ∙ (key_of-back (key_property q.key) some.0 some.1).1 ∙ sym plain)
    (option_cases (key_of (key_property q.key))))
    (cases_Bool (is_reserved_key q.key))

pub settled_fits : (q : Qualifier) → FitsQualifier q → FitsQualifier (settled_qualifier q)
settled_fits q fits =
    ⊎_elim
    (λ six. subst FitsQualifier (sym (cond-true (is_reserved_key q.key) q (record q { key = unwrap_or (key_of (key_property q.key)) q.key }) six)) fits)
    (λ plain.
    let once : settled_qualifier q ≡ record q { key = unwrap_or (key_of (key_property q.key)) q.key } = cond-false _ _ _ plain in
    subst FitsQualifier (sym once)
    (⊎_elim
    (λ none. subst FitsQualifier (λ i. record q { key = unwrap_or ((sym none) i) q.key }) fits)
    (λ some. subst FitsQualifier (λ i. record q { key = unwrap_or ((sym some.1) i) q.key }) (FitsKey (record q { key = some.0 }) (key_of-back (key_property q.key) some.0 some.1).0 (test_from_IsText q.value fits.value)))
    (option_cases (key_of (key_property q.key)))))
    (cases_Bool (is_reserved_key q.key))

same_map : {X : Type 0} (f : X → X) (xs : List X) → ((x : X) → In x xs → f x ≡ x) → map f xs ≡ xs
same_map f [] each = refl
same_map f (x ∷ xs) each = let tail = same_map f xs (λ y later. each y (inr later)) in λ i. each x (inl refl) i ∷ tail i

abbrev pub settled_all : List Qualifier → List Qualifier
settled_all qs = sorted_by qualifier_text (map settled_qualifier qs)

qualifiers_again : (qs : List Qualifier) → settled_all (settled_all qs) ≡ settled_all qs
qualifiers_again qs =
    ap (sorted_by qualifier_text) (same_map settled_qualifier (settled_all qs) (λ q here.
    let from = In-from_map settled_qualifier q qs (sorted_by-only qualifier_text (map settled_qualifier qs) q here) in
    subst (λ r. settled_qualifier r ≡ r) from.2 (qualifier_again from.0)))
    ∙ sorted_again qualifier_text (map settled_qualifier qs)

pub fits_quals : (shape : ValueShape) (qs : List Qualifier) → FitBehind shape qs → (q : Qualifier) → In q qs → FitsQualifier q
fits_quals shapes.Raw qs fits q here = absurd (subst (In q) fits here)
fits_quals _ qs fits q here = All-In FitsQualifier qs q fits here

-- keys with a meaning of their own stay
six_kept : (qs : List Qualifier) → ((q : Qualifier) → In q qs → FitsQualifier q) → list_any (λ (q : Qualifier). is_reserved_key q.key) (settled_all qs) ≡ list_any (λ (q : Qualifier). is_reserved_key q.key) qs
six_kept qs fits =
    let six = λ (q : Qualifier). is_reserved_key q.key in
    ⊎_elim
    (λ yes.
    let q = in_from_any six qs yes in
    let told : AreTold qualifier_text (map settled_qualifier qs) = λ a b p r same.
    let x = In-from_map settled_qualifier a qs p in
    let y = In-from_map settled_qualifier b qs r in
    same_qualifier a b (subst FitsQualifier x.2 (settled_fits x.0 (fits x.0 x.1))) (subst FitsQualifier y.2 (settled_fits y.0 (fits y.0 y.1))) same in
    any_from_in six (settled_all qs) (settled_qualifier q.0) (sorted_by-each qualifier_text (map settled_qualifier qs) told (settled_qualifier q.0) (In-map settled_qualifier q.0 qs q.1)) (settled_six q.0 ∙ q.2) ∙ sym yes)
    (λ isnt. false_from_ne_true (list_any six (settled_all qs)) (λ is.
    let q = in_from_any six (settled_all qs) is in
    let from = In-from_map settled_qualifier q.0 qs (sorted_by-only qualifier_text (map settled_qualifier qs) q.0 q.1) in
    both_ways (list_any six qs) isnt (any_from_in six qs from.0 from.1 (sym (settled_six from.0) ∙ ap six from.2 ∙ q.2))) ∙ sym isnt)
    (cases_Bool (list_any six qs))

-- ---- values

module _ (reading : Reading) (writing : Writing) (agree : Agree reading writing) where
  pub ids_give : Gives reading.iri writing.id
  ids_give x y is = (agree.ids x y is).1

  pub roles_give : Gives reading.role_iri writing.role_id
  roles_give x y is = (agree.role_ids x y is).1

  abbrev kept_value : Bool → Bool → Value → Value
  kept_value role literal v = settled_value reading writing role literal v

  value_raw : (role literal : Bool) (v : Value) → is_raw (settled_value reading writing role literal v) ≡ is_raw v
  unfolding settled_value
  value_raw role literal (value.Text text) = refl
  value_raw role literal (value.Id word) = refl
  value_raw role literal (value.Pair first second) = refl
  value_raw role literal (value.Bool truth) = refl
  value_raw role literal (value.Def text xrefs) = refl
  value_raw role literal (value.Synonym text scope type xrefs) = refl
  value_raw role literal (value.XrefValue xref) = refl
  value_raw role literal (value.Literal relation text datatype) = refl
  value_raw role literal (value.Link relation target) = refl
  value_raw role literal (value.SubsetDef word text) = refl
  value_raw role literal (value.SynonymDef word text scope) = refl
  value_raw role literal (value.Raw text) = refl

  value_truth : (role literal : Bool) (v : Value) → is_truth_value false (settled_value reading writing role literal v) ≡ is_truth_value false v
  unfolding settled_value
  value_truth role literal (value.Text text) = refl
  value_truth role literal (value.Id word) = refl
  value_truth role literal (value.Pair first second) = refl
  value_truth role literal (value.Bool truth) = refl
  value_truth role literal (value.Def text xrefs) = refl
  value_truth role literal (value.Synonym text scope type xrefs) = refl
  value_truth role literal (value.XrefValue xref) = refl
  value_truth role literal (value.Literal relation text datatype) = refl
  value_truth role literal (value.Link relation target) = refl
  value_truth role literal (value.SubsetDef word text) = refl
  value_truth role literal (value.SynonymDef word text scope) = refl
  value_truth role literal (value.Raw text) = refl

  value_text_in : (role literal : Bool) (v : Value) → text_in (settled_value reading writing role literal v) ≡ text_in v
  unfolding settled_value
  value_text_in role literal (value.Text text) = refl
  value_text_in role literal (value.Id word) = refl
  value_text_in role literal (value.Pair first second) = refl
  value_text_in role literal (value.Bool truth) = refl
  value_text_in role literal (value.Def text xrefs) = refl
  value_text_in role literal (value.Synonym text scope type xrefs) = refl
  value_text_in role literal (value.XrefValue xref) = refl
  value_text_in role literal (value.Literal relation text datatype) = refl
  value_text_in role literal (value.Link relation target) = refl
  value_text_in role literal (value.SubsetDef word text) = refl
  value_text_in role literal (value.SynonymDef word text scope) = refl
  value_text_in role literal (value.Raw text) = refl

  type_twice : (type : Option (List ℕ)) → option_map (settled reading.iri writing.id) (option_map (settled reading.iri writing.id) type) ≡ option_map (settled reading.iri writing.id) type
  type_twice None = refl
  type_twice (Some id) = ap Some (settled_twice reading.iri writing.id ids_give id)

  abbrev settled_datatype : List ℕ → List ℕ
  settled_datatype word = settled (datatype_iri reading) (datatype_word writing) word

  value_twice : (role literal : Bool) (v : Value) → settled_value reading writing role literal (settled_value reading writing role literal v) ≡ settled_value reading writing role literal v
  unfolding settled_value
  value_twice role literal (value.Text text) = refl
  value_twice role true (value.Id word) = refl
  value_twice true false (value.Id word) = ap value.Id (settled_twice reading.role_iri writing.role_id roles_give word)
  value_twice false false (value.Id word) = ap value.Id (settled_twice reading.iri writing.id ids_give word)
  value_twice true literal (value.Pair first second) = λ i. value.Pair (settled_twice reading.role_iri writing.role_id roles_give first i) (settled_twice reading.role_iri writing.role_id roles_give second i)
  value_twice false literal (value.Pair first second) = λ i. value.Pair (settled_twice reading.role_iri writing.role_id roles_give first i) (settled_twice reading.iri writing.id ids_give second i)
  value_twice role literal (value.Bool truth) = refl
  value_twice role literal (value.Def text xrefs) = ap (value.Def text) (sorted_again xref_text xrefs)
  value_twice role literal (value.Synonym text scope type xrefs) = λ i. value.Synonym text scope (type_twice type i) (sorted_again xref_text xrefs i)
  value_twice role literal (value.XrefValue xref) = refl
  value_twice role literal (value.Literal relation text datatype) =
      λ i. value.Literal (settled_twice reading.iri writing.id ids_give relation i) text (settled_twice (datatype_iri reading) (datatype_word writing) (λ x y is. datatype_word-back reading writing agree (Rattle.obo_notes.specs.Forms.note_of [] (Rattle.owl_axioms.specs.declared.annotation.NoteValue.TheVariants.Text []) []) x y is) datatype i)
  value_twice role literal (value.Link relation target) = λ i. value.Link (settled_twice reading.iri writing.id ids_give relation i) (settled_twice reading.iri writing.id ids_give target i)
  value_twice role literal (value.SubsetDef word text) = λ i. value.SubsetDef (settled_twice reading.iri writing.id ids_give word i) text
  value_twice role literal (value.SynonymDef word text scope) = λ i. value.SynonymDef (settled_twice reading.iri writing.id ids_give word i) text scope
  value_twice role literal (value.Raw text) = refl

  -- ---- clauses, where it is known whether the frame is that of an annotation property

  abbrev id_as : Bool → FrameKind → List ℕ → List ℕ
  id_as known kind id =
      if is_header (framed kind id (record { tag = []; value = value.Raw []; qualifiers = [] })) then id
      else (if is_typedef kind && not known then settled reading.role_iri writing.role_id id else settled reading.iri writing.id id)

  abbrev is_role : Bool → Framed → Bool
  is_role known one =
      is_typedef one.frame && not known && not (has_tag (codes "domain") one || has_tag (codes "range") one
      || has_tag (codes "subset") one || has_tag (codes "consider") one || has_tag (codes "replaced_by") one)

  abbrev clause_as : Bool → Framed → Clause
  clause_as known one = record {
    tag = one.clause.tag;
    value = settled_value reading writing (is_role known one) (has_tag (codes "alt_id") one || has_tag (codes "import") one) one.clause.value;
    qualifiers = settled_all one.clause.qualifiers;
  }

  abbrev pub kept_as : Bool → Framed → Framed
  kept_as known one = framed one.frame (id_as known one.frame one.id) (if is_raw one.clause.value then one.clause else clause_as known one)

  id_twice : (known : Bool) (kind : FrameKind) (id : List ℕ) → id_as known kind (id_as known kind id) ≡ id_as known kind id
  id_twice known Header id = refl
  id_twice known Term id = settled_twice reading.iri writing.id ids_give id
  id_twice known Instance id = settled_twice reading.iri writing.id ids_give id
  id_twice true Typedef id = settled_twice reading.iri writing.id ids_give id
  id_twice false Typedef id = settled_twice reading.role_iri writing.role_id roles_give id

  pub kept_twice : (known : Bool) (one : Framed) → kept_as known (kept_as known one) ≡ kept_as known one
  kept_twice known one =
      let id = id_twice known one.frame one.id in
      ⊎_elim
      (λ raw.
      let same : kept_as known one ≡ framed one.frame (id_as known one.frame one.id) one.clause = ap (framed one.frame (id_as known one.frame one.id)) (cond-true (is_raw one.clause.value) one.clause (clause_as known one) raw) in
      ap (kept_as known) same
      ∙ (λ i. framed one.frame (id i) (if raw i then one.clause else clause_as known (framed one.frame (id_as known one.frame one.id) one.clause)))
      ∙ sym same)
      (λ not_raw.
      let next = clause_as known one in
      let same : kept_as known one ≡ framed one.frame (id_as known one.frame one.id) next = ap (framed one.frame (id_as known one.frame one.id)) (cond-false (is_raw one.clause.value) one.clause next not_raw) in
      let role = is_role known one in
      let literal = has_tag (codes "alt_id") one || has_tag (codes "import") one in
      let stays : is_raw next.value ≡ false = value_raw role literal one.clause.value ∙ not_raw in
      let again : clause_as known (framed one.frame (id_as known one.frame one.id) next) ≡ next =
      λ i. record { tag = one.clause.tag; value = value_twice role literal one.clause.value i; qualifiers = qualifiers_again one.clause.qualifiers i } in
      ap (kept_as known) same
      ∙ (λ i. framed one.frame (id i) (if stays i then next else again i))
      ∙ sym same)
      (cases_Bool (is_raw one.clause.value))

  -- ---- what is kept is like what was there

  pub kept_tag : (known : Bool) (one : Framed) → (kept_as known one).clause.tag ≡ one.clause.tag
  kept_tag known one =
      ⊎_elim
      (λ raw. ap (λ (c : Clause). c.tag) (cond-true (is_raw one.clause.value) one.clause (clause_as known one) raw))
      (λ not_raw. ap (λ (c : Clause). c.tag) (cond-false (is_raw one.clause.value) one.clause (clause_as known one) not_raw))
      (cases_Bool (is_raw one.clause.value))

  pub kept_by : {X : Type 0} (f : Value → X) (known : Bool) (one : Framed) → ((role literal : Bool) → f (settled_value reading writing role literal one.clause.value) ≡ f one.clause.value) → f (kept_as known one).clause.value ≡ f one.clause.value
  kept_by f known one each =
      ⊎_elim
      (λ raw. ap (λ (c : Clause). f c.value) (cond-true (is_raw one.clause.value) one.clause (clause_as known one) raw))
      (λ not_raw. ap (λ (c : Clause). f c.value) (cond-false (is_raw one.clause.value) one.clause (clause_as known one) not_raw) ∙ each (is_role known one) (has_tag (codes "alt_id") one || has_tag (codes "import") one))
      (cases_Bool (is_raw one.clause.value))

  pub kept_raw : (known : Bool) (one : Framed) → is_raw (kept_as known one).clause.value ≡ is_raw one.clause.value
  kept_raw known one = kept_by is_raw known one (λ role literal. value_raw role literal one.clause.value)

  pub kept_truth : (known : Bool) (one : Framed) → is_truth_value false (kept_as known one).clause.value ≡ is_truth_value false one.clause.value
  kept_truth known one = kept_by (is_truth_value false) known one (λ role literal. value_truth role literal one.clause.value)

  pub kept_text : (known : Bool) (one : Framed) → text_in (kept_as known one).clause.value ≡ text_in one.clause.value
  kept_text known one = kept_by text_in known one (λ role literal. value_text_in role literal one.clause.value)

  pub kept_six : (known : Bool) (one : Framed) → ((q : Qualifier) → In q one.clause.qualifiers → FitsQualifier q) → has_reserved_key (kept_as known one) ≡ has_reserved_key one
  kept_six known one fits =
      ⊎_elim
      (λ raw. ap (λ (c : Clause). list_any (λ (q : Qualifier). is_reserved_key q.key) c.qualifiers) (cond-true (is_raw one.clause.value) one.clause (clause_as known one) raw))
      (λ not_raw. ap (λ (c : Clause). list_any (λ (q : Qualifier). is_reserved_key q.key) c.qualifiers) (cond-false (is_raw one.clause.value) one.clause (clause_as known one) not_raw) ∙ six_kept one.clause.qualifiers fits)
      (cases_Bool (is_raw one.clause.value))

  kept_id_reads : (known : Bool) (kind : FrameKind) (id : List ℕ) → ((x : List ℕ) → reading.role_iri x ≡ reading.iri x) → reading.iri (id_as known kind id) ≡ reading.iri id
  kept_id_reads known Header id same = refl
  kept_id_reads known Term id same = settled_reads reading.iri writing.id ids_give id
  kept_id_reads known Instance id same = settled_reads reading.iri writing.id ids_give id
  kept_id_reads true Typedef id same = settled_reads reading.iri writing.id ids_give id
  kept_id_reads false Typedef id same = sym (same (settled reading.role_iri writing.role_id id)) ∙ settled_reads reading.role_iri writing.role_id roles_give id ∙ same id

  pub kept_iri : (known : Bool) (one : Framed) → ((x : List ℕ) → reading.role_iri x ≡ reading.iri x) → reading.iri (kept_as known one).id ≡ reading.iri one.id
  kept_iri known one same = kept_id_reads known one.frame one.id same
