-- The value that says a note says it, with what is left for qualifiers: form by form.
use Rattle.std.proofs.Common.{◌≡◌, ℕ, true, false, not, ◌&&◌, List, [], ◌∷◌, ◌++◌, codes, map, None, Some, ⊎_elim, refl, sym, ap, subst, ◌∙◌}
use Rattle.std.specs.Option.{is_none, option_and_then, option_map, option_or, option_to_list}
use Rattle.std.specs.Str.{bytes_eq}
use Rattle.std.proofs.lemmas.Bool.{and_parts, cond-false, cond-true, not-true, or_cases}
use Rattle.std.proofs.lemmas.Option.{same_Some}
use Rattle.percent_encoding.specs.Percent.{percent_decode}
use Rattle.iri_map.specs.Escape.{escaped_part, escaped_url}
use Rattle.iri_map.specs.Id.{is_url}
use Rattle.iri_map.proofs.UrlLemmas.{starts}
use Rattle.iri_map.specs.Split.{after_start}
use Rattle.iri_map.proofs.CandidateLemmas.{after_start-append, bytes_eq-refl}
use Rattle.obo_clause.specs.declared.clause.Scope.{Scope}
use Rattle.obo_clause.specs.declared.clause.Scope.TheVariants as scope
use Rattle.obo_clause.specs.declared.clause.Value.{Value}
use Rattle.obo_clause.specs.declared.clause.Value.TheVariants as value
use Rattle.owl_axioms.specs.Vocabulary.{rdfs_label}
use Rattle.owl_axioms.specs.declared.annotation.NoteValue.{NoteValue}
use Rattle.owl_axioms.specs.declared.annotation.NoteValue.TheVariants.{Link, Text, Typed}
use Rattle.owl_axioms.specs.declared.annotation.Side.{Side}
use Rattle.text_sets.specs.Sorted.{sorted_by}
use Rattle.clause_printer.specs.Printing.{xref_text}
use Rattle.obo_notes.proofs.XrefLists.{Splits-xrefs}
use Rattle.text_sets.specs.Parts.{Splits, take_all, take_one}
use Rattle.text_sets.proofs.PartLemmas.{Splits-again, Splits-nothing, first_some-found, option_and_then_some, option_map_some, option_or_some, take_one-splits}
use Rattle.obo_notes.specs.Context.{Agree, Reading, Writing, datatype_by, datatype_iri, datatype_word, is_text, other_name, url_name, where_true, xsd_name, xsd_prefix}
use Rattle.obo_notes.specs.Forms.{Form, Spelled, as_definition, as_link, as_property, as_subset, as_synonym, as_synonym_type, as_text, as_truth, as_value_of, as_word, as_xref, described, first_part, is_true_value, is_truth, literal, note_of, said, scope_of_property, scope_with, spelled, spelled_as, synonym_parts, synonym_property, synonym_type_parts}
use Rattle.obo_notes.specs.declared.note.Note.{Note}
use Rattle.obo_notes.specs.Keys.{text_of_value, text_side}
use Rattle.obo_notes.specs.Parts.{id_of_value, is_word, scope_of, side_of_scope, side_of_type, side_of_xref, text_of, type_of, xref_of}
use Rattle.obo_notes.specs.Vocabulary.{has_dbxref, iao_definition, own_property, rdfs_comment, xsd, xsd_boolean, xsd_string}
use Rattle.obo_notes.proofs.Guards.{none_from_is_none, same_bytes, take_one-single, where_true_some}
use Rattle.obo_notes.proofs.KeyCovers.{constant_text, test_from_IsText}
use Rattle.obo_notes.proofs.KeyLemmas.{text_of_value-back}
use Rattle.obo_notes.proofs.PartBacks.{StandsFor-scope, StandsFor-text, StandsFor-type, link-back}

-- the value says the note's property and value, and what it says of the annotations and what is left are the note's
pub record SaysBack (reading : Reading) (form : Form) (note : Note) (one : Spelled) : Type 0 where
  pub own : List Side
  pub says : said reading form one.value ≡ Some (note_of note.property note.value own)
  pub splits : Splits note.sides own one.rest

-- two equal notes with these annotations
same_note : {property other : List ℕ} {a b : NoteValue} (sides : List Side) → property ≡ other → a ≡ b → Some (note_of property a sides) ≡ Some (note_of other b sides)
same_note sides property value = λ i. Some (note_of (property i) (value i) sides)

module _ (reading : Reading) (writing : Writing) (agree : Agree reading writing) (note : Note) where
  text-back : (property : List ℕ) (one : Spelled) → as_text property note ≡ Some one → SaysBack reading (Form.TextForm property) note one
  unfolding said
  text-back property one is =
      let found = where_true_some (bytes_eq note.property property) (option_map (λ text. spelled (value.Text text) note.sides) (text_of_value note.value)) one is in
      let text = option_map_some (λ text. spelled (value.Text text) note.sides) (text_of_value note.value) one found.1 in
      let has = text_of_value-back note.value text.0 text.1 in
      subst (SaysBack reading (Form.TextForm property) note) text.2 (record {
        own = [];
        says = same_note [] (sym (same_bytes note.property property found.0)) (sym has.0);
        splits = Splits-nothing note.sides;
      })

  word-back : (property : List ℕ) (one : Spelled) → as_word property note ≡ Some one → SaysBack reading (Form.WordForm property) note one
  unfolding said
  word-back property one is =
      let found = where_true_some (bytes_eq note.property property) _ one is in
      let text = option_and_then_some (λ text. where_true (is_word text) (Some (spelled (value.Id text) note.sides))) (text_of_value note.value) one found.1 in
      let word = where_true_some (is_word text.0) (Some (spelled (value.Id text.0) note.sides)) one text.2 in
      let has = text_of_value-back note.value text.0 text.1 in
      subst (SaysBack reading (Form.WordForm property) note) (same_Some (spelled (value.Id text.0) note.sides) one word.1) (record {
        own = [];
        says = same_note [] (sym (same_bytes note.property property found.0)) (sym has.0);
        splits = Splits-nothing note.sides;
      })

  link_form-back : (property : List ℕ) (one : Spelled) → as_link writing property note ≡ Some one → SaysBack reading (Form.LinkForm property) note one
  unfolding said
  link_form-back property one is =
      let found = where_true_some (bytes_eq note.property property) _ one is in
      let id = option_map_some (λ id. spelled (value.Id id) note.sides) (id_of_value writing note.value) one found.1 in
      let has = link-back reading writing agree note.value id.0 id.1 in
      subst (SaysBack reading (Form.LinkForm property) note) id.2 (record {
        own = [];
        says = same_note [] (sym (same_bytes note.property property found.0)) (sym has);
        splits = Splits-nothing note.sides;
      })

  truth_value : (value : NoteValue) → is_truth value ≡ true → value ≡ is_true_value
  truth_value (Typed text datatype) is =
      let parts = and_parts (bytes_eq text (codes "true")) (bytes_eq datatype xsd_boolean) is in
      λ i. Typed (same_bytes text (codes "true") parts.0 i) (same_bytes datatype xsd_boolean parts.1 i)
  truth_value (Text text) is = let h : false ≡ true = is in absurd (cc)
  truth_value (Link iri) is = let h : false ≡ true = is in absurd (cc)

  truth-back : (property : List ℕ) (one : Spelled) → as_truth property note ≡ Some one → SaysBack reading (Form.TruthForm property) note one
  unfolding said
  truth-back property one is =
      let found = where_true_some (bytes_eq note.property property && is_truth note.value) (Some (spelled (value.Bool true) note.sides)) one is in
      let tests = and_parts (bytes_eq note.property property) (is_truth note.value) found.0 in
      subst (SaysBack reading (Form.TruthForm property) note) (same_Some (spelled (value.Bool true) note.sides) one found.1) (record {
        own = [];
        says = same_note [] (sym (same_bytes note.property property tests.0)) (sym (truth_value note.value tests.1));
        splits = Splits-nothing note.sides;
      })

  definition-back : (one : Spelled) → as_definition note ≡ Some one → SaysBack reading Form.DefinitionForm note one
  unfolding said
  definition-back one is =
      let found = where_true_some (bytes_eq note.property iao_definition) _ one is in
      let xrefs = take_all xref_of note.sides in
      let text = option_map_some (λ text. spelled (value.Def text (sorted_by xref_text xrefs.parts)) xrefs.rest) (text_of_value note.value) one found.1 in
      let has = text_of_value-back note.value text.0 text.1 in
      subst (SaysBack reading Form.DefinitionForm note) text.2 (record {
        own = map side_of_xref (sorted_by xref_text xrefs.parts);
        says = same_note (map side_of_xref (sorted_by xref_text xrefs.parts)) (sym (same_bytes note.property iao_definition found.0)) (sym has.0);
        splits = Splits-xrefs note.sides;
      })

  scope_of_property-back : (property : List ℕ) (one : Scope) → scope_of_property property ≡ Some one → synonym_property one ≡ property
  unfolding scope_of_property
  scope_of_property-back property one is =
      let found = first_some-found (scope_with property) (scope.Exact ∷ scope.Broad ∷ scope.Narrow ∷ scope.Related ∷ []) one is in
      let test = where_true_some (bytes_eq (synonym_property found.0) property) (Some found.0) one found.2 in
      subst (λ s. synonym_property s ≡ property) (same_Some found.0 one test.1) (same_bytes (synonym_property found.0) property test.0)

  synonym-back : (one : Spelled) → as_synonym writing note ≡ Some one → SaysBack reading Form.SynonymForm note one
  unfolding said
  synonym-back one is =
      let found = option_and_then_some (λ scope. option_map (λ text. synonym_parts writing text scope note.sides) (text_of_value note.value)) (scope_of_property note.property) one is in
      let text = option_map_some (λ text. synonym_parts writing text found.0 note.sides) (text_of_value note.value) one found.2 in
      let has = text_of_value-back note.value text.0 text.1 in
      let type = take_one (type_of writing) note.sides in
      let xrefs = take_all xref_of type.rest in
      let single = take_one-single (type_of writing) note.sides in
      let own = λ (types : List (List ℕ)). map (side_of_type reading) types ++ map side_of_xref (sorted_by xref_text xrefs.parts) in
      subst (SaysBack reading Form.SynonymForm note) text.2 (record {
        own = own type.parts;
        says = ap (λ types. Some (note_of (synonym_property found.0) (Text text.0) (own types))) single
            ∙ same_note (own type.parts) (scope_of_property-back note.property found.0 found.1) (sym has.0);
        splits = Splits-again note.sides (map (side_of_type reading) type.parts) (map side_of_xref (sorted_by xref_text xrefs.parts)) type.rest xrefs.rest
            (take_one-splits (type_of writing) (side_of_type reading) (StandsFor-type reading writing agree) note.sides)
            (Splits-xrefs type.rest);
      })

  xref-back : (one : Spelled) → as_xref note ≡ Some one → SaysBack reading Form.XrefForm note one
  unfolding said
  xref-back one is =
      let found = where_true_some (bytes_eq note.property has_dbxref) _ one is in
      let label = take_one (text_of rdfs_label) note.sides in
      let make = λ (id : List ℕ). spelled (value.XrefValue (record { id = id; label = first_part label.parts })) label.rest in
      let id = option_and_then_some (λ id. where_true (is_word id) (Some (make id))) (text_of_value note.value) one found.1 in
      let word = where_true_some (is_word id.0) (Some (make id.0)) one id.2 in
      let has = text_of_value-back note.value id.0 id.1 in
      let single = take_one-single (text_of rdfs_label) note.sides in
      let own = λ (labels : List (List ℕ)). map (text_side rdfs_label) labels in
      subst (SaysBack reading Form.XrefForm note) (same_Some (make id.0) one word.1) (record {
        own = own label.parts;
        says = ap (λ labels. Some (note_of has_dbxref (Text id.0) (own labels))) single
            ∙ same_note (own label.parts) (sym (same_bytes note.property has_dbxref found.0)) (sym has.0);
        splits = take_one-splits (text_of rdfs_label) (text_side rdfs_label) (StandsFor-text rdfs_label) note.sides;
      })

  -- ---- datatypes

  local_datatype : (name : List ℕ) → is_text name ≡ true → datatype_iri reading (xsd_prefix ++ name) ≡ xsd ++ escaped_part name
  unfolding datatype_iri
  local_datatype name is =
      ap (datatype_by reading (xsd_prefix ++ name)) (after_start-append xsd_prefix name)
      ∙ cond-true (is_text name) (xsd ++ escaped_part name) (reading.iri (xsd_prefix ++ name)) is

  -- `string` is a name that a line can hold
  string_is_text : is_text (codes "string") ≡ true
  string_is_text = test_from_IsText (codes "string") (constant_text (codes "string") refl refl refl)

  other_datatype : (word : List ℕ) → after_start xsd_prefix word ≡ None → datatype_iri reading word ≡ reading.iri word
  unfolding datatype_iri
  other_datatype word none = ap (datatype_by reading word) none

  no_local : (iri : List ℕ) → is_url iri ≡ true → after_start xsd_prefix iri ≡ None
  unfolding is_url
  no_local iri url =
      ⊎_elim
      (λ http. subst (λ x. after_start xsd_prefix x ≡ None) (sym (starts (codes "http://") iri http)) refl)
      (λ https. subst (λ x. after_start xsd_prefix x ≡ None) (sym (starts (codes "https://") iri https)) refl)
      (or_cases _ _ url)

  pub datatype_word-back : (iri word : List ℕ) → datatype_word writing iri ≡ Some word → datatype_iri reading word ≡ iri
  unfolding datatype_word
  datatype_word-back iri word is =
      ⊎_elim
      (λ local.
      let rest = option_and_then_some (λ rest. xsd_name iri (percent_decode rest)) (after_start xsd iri) word local in
      let name = percent_decode rest.0 in
      let test = where_true_some (is_text name && bytes_eq (xsd ++ escaped_part name) iri) (Some (xsd_prefix ++ name)) word rest.2 in
      let tests = and_parts (is_text name) (bytes_eq (xsd ++ escaped_part name) iri) test.0 in
      let same = same_bytes (xsd ++ escaped_part name) iri tests.1 in
      subst (λ w. datatype_iri reading w ≡ iri) (same_Some (xsd_prefix ++ name) word test.1) (local_datatype name tests.0 ∙ same))
      (λ more. ⊎_elim
      (λ other.
      let id = option_and_then_some other_name (writing.id iri) word other in
      let test = where_true_some (is_none (after_start xsd_prefix id.0)) (Some id.0) word id.2 in
      subst (λ w. datatype_iri reading w ≡ iri) (same_Some id.0 word test.1)
      (other_datatype id.0 (none_from_is_none (after_start xsd_prefix id.0) test.0) ∙ (agree.ids iri id.0 id.1).1))
      (λ url.
      let test = where_true_some (is_url iri && bytes_eq (escaped_url iri) iri) (Some iri) word url in
      let tests = and_parts (is_url iri) (bytes_eq (escaped_url iri) iri) test.0 in
      subst (λ w. datatype_iri reading w ≡ iri) (same_Some iri word test.1)
      (other_datatype iri (no_local iri tests.0) ∙ agree.urls iri tests.0 (same_bytes (escaped_url iri) iri tests.1)))
      (option_or_some (option_and_then other_name (writing.id iri)) (url_name iri) word more))
      (option_or_some (option_and_then (λ rest. xsd_name iri (percent_decode rest)) (after_start xsd iri)) (option_or (option_and_then other_name (writing.id iri)) (url_name iri)) word is)

  pub string_literal : (text : List ℕ) → literal text (datatype_iri reading (codes "xsd:string")) ≡ Text text
  unfolding escaped_part
  string_literal text =
      ap (literal text) (local_datatype (codes "string") string_is_text) ∙ cond-true (bytes_eq xsd_string xsd_string) (Text text) (Typed text xsd_string) (bytes_eq-refl xsd_string)

  -- ---- any relation

  value_of-back : (relation : List ℕ) (noted : NoteValue) (one : Value) → as_value_of writing relation noted ≡ Some one → said reading Form.ValueForm one ≡ Some (note_of (reading.iri relation) noted [])
  unfolding said
  value_of-back relation (Text text) one is =
      let found = where_true_some (is_text text) (Some (value.Literal relation text (codes "xsd:string"))) one is in
      subst (λ v. said reading Form.ValueForm v ≡ Some (note_of (reading.iri relation) (Text text) [])) (same_Some (value.Literal relation text (codes "xsd:string")) one found.1)
      (ap (λ v. Some (note_of (reading.iri relation) v [])) (string_literal text))
  value_of-back relation (Typed text datatype) one is =
      let found = where_true_some (is_text text && not (bytes_eq datatype xsd_string)) _ one is in
      let word = option_map_some (λ word. value.Literal relation text word) (datatype_word writing datatype) one found.1 in
      let other = not-true (bytes_eq datatype xsd_string) (and_parts (is_text text) (not (bytes_eq datatype xsd_string)) found.0).1 in
      subst (λ v. said reading Form.ValueForm v ≡ Some (note_of (reading.iri relation) (Typed text datatype) [])) word.2
      (ap (λ v. Some (note_of (reading.iri relation) v [])) (ap (literal text) (datatype_word-back datatype word.0 word.1) ∙ cond-false (bytes_eq datatype xsd_string) (Text text) (Typed text datatype) other))
  value_of-back relation (Link iri) one is =
      let target = option_map_some (λ target. value.Link relation target) (writing.id iri) one is in
      subst (λ v. said reading Form.ValueForm v ≡ Some (note_of (reading.iri relation) (Link iri) [])) target.2
      (ap (λ x. Some (note_of (reading.iri relation) (Link x) [])) (agree.ids iri target.0 target.1).1)

  property-back : (one : Spelled) → as_property writing note ≡ Some one → SaysBack reading Form.ValueForm note one
  property-back one is =
      let relation = option_and_then_some (λ relation. option_map (λ one. spelled one note.sides) (as_value_of writing relation note.value)) (writing.id note.property) one is in
      let has = option_map_some (λ one. spelled one note.sides) (as_value_of writing relation.0 note.value) one relation.2 in
      subst (SaysBack reading Form.ValueForm note) has.2 (record {
        own = [];
        says = value_of-back relation.0 note.value has.0 has.1 ∙ same_note [] (agree.ids note.property relation.0 relation.1).1 refl;
        splits = Splits-nothing note.sides;
      })

  -- ---- the typedefs of the header

  only_part : {Y : Type 0} (parts : List Y) (y : Y) → option_to_list (first_part parts) ≡ parts → first_part parts ≡ Some y → y ∷ [] ≡ parts
  only_part parts y single is = ap option_to_list (sym is) ∙ single

  subset-back : (one : Spelled) → as_subset writing note ≡ Some one → SaysBack reading Form.SubsetForm note one
  unfolding said
  subset-back one is =
      let found = where_true_some (bytes_eq note.property (own_property (codes "subsetdef"))) _ one is in
      let texts = take_one (text_of rdfs_comment) note.sides in
      let id = option_and_then_some (λ id. described (λ text rest. spelled (value.SubsetDef id text) rest) texts) (id_of_value writing note.value) one found.1 in
      let text = option_map_some (λ text. spelled (value.SubsetDef id.0 text) texts.rest) (first_part texts.parts) one id.2 in
      let only = only_part texts.parts text.0 (take_one-single (text_of rdfs_comment) note.sides) text.1 in
      let has = link-back reading writing agree note.value id.0 id.1 in
      let own = λ (ts : List (List ℕ)). map (text_side rdfs_comment) ts in
      subst (SaysBack reading Form.SubsetForm note) text.2 (record {
        own = own texts.parts;
        says = ap (λ ts. Some (note_of (own_property (codes "subsetdef")) (Link (reading.iri id.0)) (own ts))) only
            ∙ same_note (own texts.parts) (sym (same_bytes note.property (own_property (codes "subsetdef")) found.0)) (sym has);
        splits = take_one-splits (text_of rdfs_comment) (text_side rdfs_comment) (StandsFor-text rdfs_comment) note.sides;
      })

  synonym_type-back : (one : Spelled) → as_synonym_type writing note ≡ Some one → SaysBack reading Form.TypeForm note one
  unfolding said
  synonym_type-back one is =
      let found = where_true_some (bytes_eq note.property (own_property (codes "synonymtypedef"))) _ one is in
      let texts = take_one (text_of rdfs_comment) note.sides in
      let id = option_and_then_some (λ id. described (synonym_type_parts id) texts) (id_of_value writing note.value) one found.1 in
      let text = option_map_some (λ text. synonym_type_parts id.0 text texts.rest) (first_part texts.parts) one id.2 in
      let only = only_part texts.parts text.0 (take_one-single (text_of rdfs_comment) note.sides) text.1 in
      let has = link-back reading writing agree note.value id.0 id.1 in
      let scopes = take_one scope_of texts.rest in
      let own = λ (ts : List (List ℕ)) (ss : List Scope). map (text_side rdfs_comment) ts ++ map side_of_scope ss in
      let P = λ (ts : List (List ℕ)) (ss : List Scope). Some (note_of (own_property (codes "synonymtypedef")) (Link (reading.iri id.0)) (own ts ss)) in
      subst (SaysBack reading Form.TypeForm note) text.2 (record {
        own = own texts.parts scopes.parts;
        says = (λ i. P (only i) (take_one-single scope_of texts.rest i))
            ∙ same_note (own texts.parts scopes.parts) (sym (same_bytes note.property (own_property (codes "synonymtypedef")) found.0)) (sym has);
        splits = Splits-again note.sides (map (text_side rdfs_comment) texts.parts) (map side_of_scope scopes.parts) texts.rest scopes.rest
            (take_one-splits (text_of rdfs_comment) (text_side rdfs_comment) (StandsFor-text rdfs_comment) note.sides)
            (take_one-splits scope_of side_of_scope StandsFor-scope texts.rest);
      })

  -- ---- all forms

  pub form-back : (form : Form) (one : Spelled) → spelled_as writing form note ≡ Some one → SaysBack reading form note one
  unfolding spelled_as
  form-back (Form.TextForm property) one is = text-back property one is
  form-back (Form.WordForm property) one is = word-back property one is
  form-back (Form.LinkForm property) one is = link_form-back property one is
  form-back (Form.TruthForm property) one is = truth-back property one is
  form-back Form.DefinitionForm one is = definition-back one is
  form-back Form.SynonymForm one is = synonym-back one is
  form-back Form.XrefForm one is = xref-back one is
  form-back Form.ValueForm one is = property-back one is
  form-back Form.SubsetForm one is = subset-back one is
  form-back Form.TypeForm one is = synonym_type-back one is
