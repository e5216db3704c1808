-- The axioms of a sound document are proper, have forms, and no name stands for two.
use Rattle.std.proofs.Common.{◌≡◌, ℕ, Bool, true, false, if◌then◌else◌, ◌&&◌, List, [], ◌∷◌, ◌++◌, codes, map, Option, None, Some, inl, inr, ⊎_elim, refl, sym, ap, subst, ◌∙◌}
use Rattle.std.specs.List.{AllPass, flat_map, list_all}
use Rattle.std.specs.Option.{IsSome, option_and_then, option_map, option_to_list}
use Rattle.std.specs.Str.{bytes_eq}
use Rattle.std.proofs.lemmas.Bool.{and_from, both_ways, cases_Bool, cond-false, cond-true}
use Rattle.std.proofs.lemmas.List.Elements.{All-append}
use Rattle.std.proofs.lemmas.List.Sums.{AllPass-from_list_all, list_all-from_AllPass}
use Rattle.std.proofs.lemmas.Option.{same_Some}
use Rattle.text_sets.proofs.SetLemmas.{In-append, In-from_filter_map, In-from_flat_map, In-from_map}
use Rattle.text_sets.specs.Sets.{In}
use Rattle.rel_io.specs.Texts.{is_clean_iri, is_iri_byte}
use Rattle.iri_map.specs.Escape.{escaped_part}
use Rattle.iri_map.specs.Ontology.{normalised}
use Rattle.iri_map.specs.Split.{after_start}
use Rattle.iri_map.proofs.OntologyLemmas.{NameIsSettled-all}
use Rattle.obo_clause.specs.declared.clause.Clause.{Clause}
use Rattle.obo_clause.specs.declared.clause.Scope.{Scope}
use Rattle.obo_clause.specs.declared.clause.Scope.TheVariants as scope
use Rattle.obo_clause.specs.declared.clause.Value.{Value}
use Rattle.obo_clause.specs.declared.clause.Value.TheVariants as value
use Rattle.owl_axioms.specs.Proper.{are_proper_sides, is_proper, is_proper_body, is_proper_name, is_proper_side, is_proper_value, rises}
use Rattle.owl_axioms.specs.Vocabulary.{rdfs_label}
use Rattle.owl_axioms.specs.Text.{side_text}
use Rattle.owl_axioms.specs.declared.annotation.NoteValue.TheVariants as noted
use Rattle.owl_axioms.specs.declared.annotation.Side.{Side}
use Rattle.owl_axioms.specs.declared.body.Axiom.{Axiom}
use Rattle.owl_axioms.specs.declared.body.Body.TheVariants as body
use Rattle.owl_axioms.specs.declared.name.Name.{Name}
use Rattle.text_sets.specs.Parts.{each_some}
use Rattle.text_sets.specs.Sorted.{Rises, sorted_by}
use Rattle.text_sets.proofs.PartLemmas.{first_some-found, option_and_then_some, option_map_some}
use Rattle.text_sets.proofs.SortedLemmas.{sorted_by-only}
use Rattle.obo_frames.specs.Framed.{Framed}
use Rattle.obo_mapping.specs.Axioms.{Situation, axiom_said, entity_of}
use Rattle.obo_mapping.specs.Back.{OwlIsSpellable}
use Rattle.obo_notes.specs.Context.{Agree, Reading, Writing, datatype_by, datatype_iri, is_text, where_true, writing_in, xsd_prefix}
use Rattle.obo_mapping.specs.Documents.{declared_in, has_tag, is_header, name_of, names_in, owl, situation_of, space_of, word_in}
use Rattle.obo_notes.specs.Forms.{Form, literal, said, synonym_property}
use Rattle.obo_notes.specs.declared.note.Note.{Note}
use Rattle.obo_notes.specs.Keys.{side_of_qualifier}
use Rattle.obo_notes.specs.Notes.{Row, form_in, form_of, meaning, rows, sorted_sides, with_qualifiers}
use Rattle.obo_mapping.specs.Sound.{IsSound}
use Rattle.owl_axioms.specs.Classes.{class_named}
use Rattle.obo_statements.specs.Groups.{Group, expr_pair, group_expr, group_meaning, operand_plainly}
use Rattle.obo_notes.specs.Vocabulary.{iao_definition, iao_replaced_by, obo_in_owl, owl_deprecated, rdfs_comment, xsd, xsd_boolean, xsd_string}
use Rattle.obo_statements.proofs.PlainMeaning.{grouped_plainly}
use Rattle.obo_statements.proofs.StatementsBack.{passes_in}
use Rattle.obo_normal_form.proofs.FormedAxioms.{formed, rises_test}
use Rattle.obo_normal_form.proofs.FormedNotes.{HasForm, agree, entity_iri}
use Rattle.obo_normal_form.proofs.GroupSource.{group_once}
use Rattle.obo_notes.proofs.Guards.{where_true_some}
use Rattle.obo_normal_form.proofs.OwlCases as source
use Rattle.obo_notes.proofs.ProperSides.{AreProperSides, IsProperSide, clean_url, own_clean, own_proper, part_byte, qualifier_proper}
use Rattle.obo_mapping.proofs.SinglesLaw.{IsStatement, first_part-among}
use Rattle.obo_mapping.proofs.SpacedLaws.{IsAdded}
use Rattle.iri_map.proofs.EscapeLemmas.{AllPass-escaped_part}

all_list : {X : Type 0} (p : X → Bool) (xs : List X) → ((x : X) → In x xs → p x ≡ true) → list_all p xs ≡ true
all_list p [] each = refl
all_list p (x ∷ xs) each = and_from (p x) (list_all p xs) (each x (inl refl)) (all_list p xs (λ y later. each y (inr later)))

sides_ok : (sides : List Side) → Rises side_text sides → AreProperSides sides → are_proper_sides sides ≡ true
unfolding are_proper_sides
sides_ok sides rise each = and_from (rises (map side_text sides)) (list_all is_proper_side sides) (rises_test side_text sides rise) (all_list is_proper_side sides each)

sorted_proper : (sides : List Side) → AreProperSides sides → AreProperSides (sorted_sides sides)
sorted_proper sides each s here = each s (sorted_by-only side_text sides s here)

-- ---- properties

form_clean : Form → Bool
form_clean (Form.TextForm property) = is_clean_iri property
form_clean (Form.WordForm property) = is_clean_iri property
form_clean (Form.LinkForm property) = is_clean_iri property
form_clean (Form.TruthForm property) = is_clean_iri property
form_clean _ = true

rows_clean : list_all (λ (row : Row). form_clean row.form) rows ≡ true
unfolding form_clean rows is_clean_iri obo_in_owl rdfs_label rdfs_comment iao_replaced_by owl_deprecated
rows_clean = refl

form_is_clean : (tag : List ℕ) (form : Form) → form_of tag ≡ Some form → form_clean form ≡ true
unfolding form_of
form_is_clean tag form is =
    let row = first_some-found (form_in tag) rows form is in
    let same : row.0.form ≡ form = same_Some row.0.form form (where_true_some (bytes_eq row.0.tag tag) (Some row.0.form) form row.2).1 in
    subst (λ f. form_clean f ≡ true) same (passes_in (λ (row : Row). form_clean row.form) rows row.0 rows_clean row.1)

definition_clean : is_clean_iri iao_definition ≡ true
unfolding is_clean_iri iao_definition
definition_clean = refl

boolean_clean : is_clean_iri xsd_boolean ≡ true
unfolding is_clean_iri xsd
boolean_clean = refl

scope_clean : (one : Scope) → is_clean_iri (synonym_property one) ≡ true
unfolding synonym_property
scope_clean scope.Exact = own_clean (codes "hasExactSynonym") refl
scope_clean scope.Broad = own_clean (codes "hasBroadSynonym") refl
scope_clean scope.Narrow = own_clean (codes "hasNarrowSynonym") refl
scope_clean scope.Related = own_clean (codes "hasRelatedSynonym") refl

xsd_is_clean : AllPass is_iri_byte xsd
unfolding xsd
xsd_is_clean = AllPass-from_list_all is_iri_byte xsd refl

xsd_clean : (local : List ℕ) → is_clean_iri (xsd ++ escaped_part local) ≡ true
unfolding is_clean_iri
xsd_clean local =
    list_all-from_AllPass is_iri_byte (xsd ++ escaped_part local)
    (All-append (λ b. is_iri_byte b ≡ true) xsd (escaped_part local) xsd_is_clean (AllPass-escaped_part is_iri_byte refl part_byte local))

either_clean : (test : Bool) (one other : List ℕ) → is_clean_iri one ≡ true → is_clean_iri other ≡ true → is_clean_iri (if test then one else other) ≡ true
either_clean true one other is also = is
either_clean false one other is also = also

module _ (reading : Reading) (writing : Writing) (agree : Agree reading writing) where
  clean_iri : (id : List ℕ) → is_clean_iri (reading.iri id) ≡ true
  clean_iri id = subst (λ i. is_clean_iri i ≡ true) (agree.clean id).1 (clean_url (reading.iri id))

  datatype_clean : (word : List ℕ) → is_clean_iri (datatype_iri reading word) ≡ true
  unfolding datatype_iri
  datatype_clean word = by_local (after_start xsd_prefix word)
    where
      by_local : (o : Option (List ℕ)) → is_clean_iri (datatype_by reading word o) ≡ true
      by_local None = clean_iri word
      by_local (Some name) = either_clean (is_text name) (xsd ++ escaped_part name) (reading.iri word) (xsd_clean name) (clean_iri word)

  abbrev SaidProper : Option Note → Type 0
  SaidProper None = Unit {0}
  SaidProper (Some note) = (is_clean_iri note.property ≡ true) × (is_proper_value note.value ≡ true)

  literal_proper : (text datatype : List ℕ) → is_clean_iri datatype ≡ true → is_proper_value (literal text datatype) ≡ true
  unfolding is_proper_value
  literal_proper text datatype clean =
      ⊎_elim (λ yes. ap is_proper_value (cond-true _ (noted.Text text) (noted.Typed text datatype) yes)) (λ isnt. ap is_proper_value (cond-false _ (noted.Text text) (noted.Typed text datatype) isnt) ∙ clean) (cases_Bool (bytes_eq datatype xsd_string))

  said_proper : (form : Form) (v : Value) → form_clean form ≡ true → SaidProper (said reading form v)
  unfolding said form_clean is_proper_value
  said_proper (Form.TextForm property) (value.Text text) clean = (clean, refl)
  said_proper (Form.WordForm property) (value.Id word) clean = (clean, refl)
  said_proper (Form.LinkForm property) (value.Id id) clean = (clean, clean_iri id)
  said_proper (Form.TruthForm property) (value.Bool true) clean = (clean, boolean_clean)
  said_proper Form.DefinitionForm (value.Def text xrefs) clean = (definition_clean, refl)
  said_proper Form.SynonymForm (value.Synonym text scope type xrefs) clean = (scope_clean scope, refl)
  said_proper Form.XrefForm (value.XrefValue xref) clean = (own_clean (codes "hasDbXref") refl, refl)
  said_proper Form.ValueForm (value.Literal relation text datatype) clean = (clean_iri relation, literal_proper text _ (datatype_clean datatype))
  said_proper Form.ValueForm (value.Link relation target) clean = (clean_iri relation, clean_iri target)
  said_proper Form.SubsetForm (value.SubsetDef id text) clean = (own_clean (codes "subsetdef") refl, clean_iri id)
  said_proper Form.TypeForm (value.SynonymDef id text scope) clean = (own_clean (codes "synonymtypedef") refl, clean_iri id)
  said_proper _ _ clean = tt

  note_proper : (c : Clause) (note : Note) → meaning reading c ≡ Some note → (is_clean_iri note.property ≡ true) × (is_proper_value note.value ≡ true) × AreProperSides note.sides
  unfolding meaning
  note_proper c note is =
      let one = option_map_some (with_qualifiers c.qualifiers) (option_and_then (λ form. said reading form c.value) (form_of c.tag)) note is in
      let form = option_and_then_some (λ form. said reading form c.value) (form_of c.tag) one.0 one.1 in
      let proper = subst SaidProper form.2 (said_proper form.0 c.value (form_is_clean c.tag form.0 form.1)) in
      let all : AreProperSides (one.0.sides ++ map side_of_qualifier c.qualifiers) = λ s here. ⊎_elim (own_proper reading writing agree form.0 c.value one.0 form.2 s)
      (λ q. let x = In-from_map side_of_qualifier s c.qualifiers q in subst IsProperSide x.2 (qualifier_proper x.0)) (In-append s one.0.sides (map side_of_qualifier c.qualifiers) here) in
      subst (λ (n : Note). (is_clean_iri n.property ≡ true) × (is_proper_value n.value ≡ true) × AreProperSides n.sides) one.2
      (proper.0, proper.1, sorted_proper (one.0.sides ++ map side_of_qualifier c.qualifiers) all)

module _ (d : List Framed) (sound : IsSound d) where
  abbrev S : Situation
  S = situation_of d

  -- a name is clean
  name_clean : (f : Framed) (name : Name) → entity_of S f.frame f.id ≡ Some name → is_proper_name name ≡ true
  unfolding is_proper_name
  name_clean f name is = let one = entity_iri d sound f.frame f.id name is in subst (λ i. is_clean_iri i ≡ true) one.1 (clean_iri S.reading (writing_in (space_of d)) (agree d sound) one.0)

  proper_by : (a : Axiom) → is_proper_body a.body ≡ true → Rises side_text a.sides → AreProperSides a.sides → is_proper a ≡ true
  unfolding is_proper
  proper_by a one rise each = and_from (is_proper_body a.body) (are_proper_sides a.sides) one (sides_ok a.sides rise each)

  case_proper : (f : Framed) (a : Axiom) → HasForm d sound a → source.SaidCase S f a → is_proper a ≡ true
  unfolding is_proper_body
  case_proper f a form (inl is) = subst (λ b. is_proper b ≡ true) is.says (proper_by (record { body = body.Declaration is.name; sides = [] }) (name_clean f is.name is.entity) tt (λ s here. absurd here))
  case_proper f a form (inr (inl is)) =
      let note = note_proper S.reading (writing_in (space_of d)) (agree d sound) f.clause is.note is.means in
      proper_by a (subst (λ (b : Axiom). is_proper_body b.body ≡ true) is.says (and_from _ _ (and_from _ _ (name_clean f is.name is.entity) note.0) note.1)) form.rises (subst (λ (b : Axiom). AreProperSides b.sides) is.says note.2)
  case_proper f a form (inr (inr (inl is))) =
      let note = note_proper S.reading (writing_in (space_of d)) (agree d sound) f.clause is.note is.means in
      proper_by a (subst (λ (b : Axiom). is_proper_body b.body ≡ true) is.says (and_from _ _ note.0 note.1)) form.rises (subst (λ (b : Axiom). AreProperSides b.sides) is.says note.2)
  case_proper f a form (inr (inr (inr is))) =
      let by = source.stated_by S.reading f.frame is.name.iri f.clause a is.means in
      proper_by a (form.proper (source.stated_statement S.reading f.frame is.name.iri f.clause a is.means)) form.rises
      (subst AreProperSides by.sides (sorted_proper (map side_of_qualifier f.clause.qualifiers) (λ s here. let q = In-from_map side_of_qualifier s f.clause.qualifiers here in subst IsProperSide q.2 (qualifier_proper q.0))))

  pair_statement : (c e : Rattle.owl_axioms.specs.declared.expr.ClassExpr.ClassExpr) → IsStatement (expr_pair c e)
  pair_statement c e = ⊎_elim (λ yes. subst IsStatement (sym (cond-true _ (body.Equiv c e) (body.Equiv e c) yes)) tt) (λ isnt. subst IsStatement (sym (cond-false _ (body.Equiv c e) (body.Equiv e c) isnt)) tt)
      (cases_Bool (Rattle.owl_axioms.specs.Proper.in_order (Rattle.owl_axioms.specs.Text.expr_text c) (Rattle.owl_axioms.specs.Text.expr_text e)))

  group_is_proper : (reading : Reading) (x : List ℕ) (g : Group) (clauses : List Clause) (a : Axiom) → HasForm d sound a → group_meaning reading x g clauses ≡ Some a → is_proper a ≡ true
  group_is_proper reading x g clauses a form is =
      let of = λ (clause : Clause). map side_of_qualifier clause.qualifiers in
      let made = option_map_some (λ operands. let one : Axiom = record {
        body = expr_pair (class_named x) (group_expr g (sorted_by Rattle.owl_axioms.specs.Text.expr_text operands));
        sides = sorted_sides (flat_map (λ (clause : Clause). map side_of_qualifier clause.qualifiers) clauses);
      } in one) (each_some (λ (clause : Clause). operand_plainly reading g clause.value) clauses) a (grouped_plainly reading x g clauses a is) in
      let each : AreProperSides (flat_map of clauses) = λ s here.
      let c = In-from_flat_map of s clauses here in
      let q = In-from_map side_of_qualifier s c.0.qualifiers c.2 in
      subst IsProperSide q.2 (qualifier_proper q.0) in
      proper_by a (form.proper (subst IsStatement (ap (λ (b : Axiom). b.body) made.2) (pair_statement (class_named x) (group_expr g (sorted_by Rattle.owl_axioms.specs.Text.expr_text made.0))))) form.rises
      (subst (λ (b : Axiom). AreProperSides b.sides) made.2 (sorted_proper (flat_map of clauses) each))

  spaced_proper : (a : Axiom) → source.IsSpaced d a → is_proper a ≡ true
  unfolding is_proper_body is_proper_value
  spaced_proper a is =
      let one = In-from_filter_map declared_in is.name (source.said_in d) is.declared in
      let f = source.declared_from d is.name (Rattle.text_sets.proofs.SetLemmas.In-filter_map declared_in is.name (owl d) one.0 (source.said_in_owl d one.0 one.1) one.2) in
      subst (λ b. is_proper b ≡ true) is.same
      (proper_by (Rattle.obo_mapping.proofs.SpacedLaws.spacing is.text is.name) (and_from _ _ (and_from _ _ (name_clean f.0 is.name f.2) (own_clean (codes "hasOBONamespace") refl)) refl) tt (λ s here. absurd here))

  owl_proper : (a : Axiom) → In a (owl d) → is_proper a ≡ true
  owl_proper a here =
      let form = formed d sound a here in
      ⊎_elim
      (λ (by : source.IsSaidBy d a). ⊎_elim
      (λ alone. case_proper by.one a form (source.said_cases S by.one a alone))
      (λ grouped. let g = source.grouped_by d by.one a grouped in group_is_proper S.reading (S.reading.iri by.one.id) g.group _ a form g.means)
      by.says)
      (λ (new : source.IsSpaced d a). spaced_proper a new)
      (source.owl_cases d a here)

  name_normal : (n : List ℕ) → In n (option_to_list (name_of d)) → normalised n ≡ n
  name_normal n here =
      let among = sorted_by-only (λ (t : List ℕ). t) (names_in d) n (first_part-among (sorted_by (λ (t : List ℕ). t) (names_in d)) n (from_option (name_of d) here)) in
      let f = In-from_filter_map (λ one. where_true (is_header one && has_tag (codes "ontology") one) (option_map normalised (word_in one.clause.value))) n d among in
      let test = where_true_some (is_header f.0 && has_tag (codes "ontology") f.0) (option_map normalised (word_in f.0.clause.value)) n f.2 in
      let word = option_map_some normalised (word_in f.0.clause.value) n test.1 in
      subst (λ m. normalised m ≡ m) word.2 (NameIsSettled-all word.0).once
    where
      from_option : {X : Type 0} (o : Option X) {x : X} → In x (option_to_list o) → o ≡ Some x
      from_option None here = absurd here
      from_option (Some y) here = ⊎_elim (λ same. ap Some same) (λ none. absurd none) here

pub owl_is_spellable : OwlIsSpellable
owl_is_spellable d sound = (
  record {
    normal = name_normal d sound;
    proper = owl_proper d sound;
    formed = λ a here. let form = formed d sound a here in subst IsSome (sym form.spelled) refl;
  },
  record {
    names = λ iri role meta. both_ways (Rattle.obo_mapping.specs.Axioms.is_metadata (situation_of d) iri) (source.role_is_none d iri role) (source.metadata_known d iri meta);
    groups = λ x g a b some others here there one other. group_once d (writing_in (space_of d)) x g a b some others here there one other;
  },
)
