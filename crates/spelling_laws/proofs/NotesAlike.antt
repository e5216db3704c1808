-- A note has a clause in an ontology of one name exactly where it has one in an ontology of another name.
use Rattle.std.proofs.Common.{◌≡◌, ℕ, List, Option, None, Some, refl, sym, ap, subst, ◌∙◌}
use Rattle.std.specs.Option.{IsSome, option_and_then, option_map, option_or}
use Rattle.std.specs.Str.{bytes_eq}
use Rattle.percent_encoding.specs.Percent.{percent_decode}
use Rattle.iri_map.specs.Split.{after_start}
use Rattle.obo_tags.specs.declared.kind.FrameKind.{FrameKind}
use Rattle.obo_clause.specs.declared.clause.Clause.{Clause}
use Rattle.obo_clause.specs.declared.clause.Scope.{Scope}
use Rattle.obo_clause.specs.declared.clause.Value.{Value}
use Rattle.obo_clause.specs.declared.clause.Value.TheVariants as value
use Rattle.owl_axioms.specs.declared.annotation.NoteValue.{NoteValue}
use Rattle.owl_axioms.specs.declared.annotation.NoteValue.TheVariants.{Link, Text, Typed}
use Rattle.owl_axioms.specs.declared.annotation.Side.{Side}
use Rattle.text_sets.specs.Parts.{Taken, take_all, take_one}
use Rattle.text_sets.proofs.PartLemmas.{some_value}
use Rattle.obo_notes.specs.Context.{Writing, datatype_word, is_text, other_name, url_name, xsd_name}
use Rattle.obo_notes.specs.Forms.{Form, Spelled, as_definition, as_text, as_truth, as_value_of, as_word, as_xref, described, first_part, scope_of_property, spelled, spelled_as, synonym_parts, synonym_type_parts}
use Rattle.obo_notes.specs.Keys.{text_of_value}
use Rattle.obo_notes.specs.Parts.{id_of_value, text_of, type_of, xref_of}
use Rattle.obo_notes.specs.Notes.{clause_by, clause_with, form_of, qualifiers_of, spelling, tags_tried}
use Rattle.obo_notes.specs.declared.note.Note.{Note}
use Rattle.obo_notes.specs.Vocabulary.{own_property, rdfs_comment, xsd}
use Rattle.spelling_laws.proofs.Matching.{Alike, Any, Matches, alike_first, alike_map, alike_or, alike_self, alike_where, matches_behind, matches_map, matches_self, matches_then, matches_where, rest_alike}
use Rattle.spelling_laws.proofs.SameIds.{WriteAlike}

-- the same annotations are left for qualifiers
abbrev SameRest : Spelled → Spelled → Type 0
SameRest one other = one.rest ≡ other.rest

both_some : (o p : Option (List ℕ)) (url : List ℕ) → Alike (option_or o (Some url)) (option_or p (Some url))
both_some None None url = tt
both_some None (Some y) url = tt
both_some (Some x) None url = tt
both_some (Some x) (Some y) url = tt

module _ (one other : Writing) (alike : WriteAlike one other) where
  value_id : (v : NoteValue) → Alike (id_of_value one v) (id_of_value other v)
  value_id (Link iri) = alike.ids iri
  value_id (Text text) = tt
  value_id (Typed text datatype) = tt

  type_alike : (side : Side) → Alike (type_of one side) (type_of other side)
  unfolding type_of
  type_alike side = alike_where _ (id_of_value one side.value) (id_of_value other side.value) (value_id side.value)

  -- a datatype that has an id has a word, if only its URL
  datatype_alike : (iri : List ℕ) → Alike (datatype_word one iri) (datatype_word other iri)
  unfolding datatype_word
  datatype_alike iri =
      let first = option_and_then (λ rest. xsd_name iri (percent_decode rest)) (after_start xsd iri) in
      alike_or first _ first _ (alike_self first) (by_id (one.id iri) (other.id iri) (alike.ids iri) (alike.urls iri))
    where
      by_id : (o p : Option (List ℕ)) → Alike o p → (IsSome o → IsSome (url_name iri)) → Alike (option_or (option_and_then other_name o) (url_name iri)) (option_or (option_and_then other_name p) (url_name iri))
      by_id None None is named = alike_self (url_name iri)
      by_id None (Some y) is named = absurd is
      by_id (Some x) None is named = absurd is
      by_id (Some x) (Some y) is named =
          let has = some_value (url_name iri) (named refl) in
          subst (λ u. Alike (option_or (other_name x) u) (option_or (other_name y) u)) (sym has.1) (both_some (other_name x) (other_name y) has.0)

  noted_alike : (relation again : List ℕ) (v : NoteValue) → Alike (as_value_of one relation v) (as_value_of other again v)
  noted_alike relation again (Text text) = alike_where (is_text text) (Some (value.Literal relation text _)) (Some (value.Literal again text _)) tt
  noted_alike relation again (Typed text datatype) =
      alike_where _ (option_map (λ word. value.Literal relation text word) (datatype_word one datatype)) (option_map (λ word. value.Literal again text word) (datatype_word other datatype))
      (alike_map _ _ (datatype_word one datatype) (datatype_word other datatype) (datatype_alike datatype))
  noted_alike relation again (Link iri) = alike_map _ _ (one.id iri) (other.id iri) (alike.ids iri)

  synonym_rest : (text : List ℕ) (scope : Scope) (sides : List Side) → SameRest (synonym_parts one text scope sides) (synonym_parts other text scope sides)
  synonym_rest text scope sides = ap (λ rest. (take_all xref_of rest).rest) (rest_alike (type_of one) (type_of other) type_alike sides)

  described_alike : (make again : List ℕ → List Side → Spelled) → ((text : List ℕ) (rest : List Side) → SameRest (make text rest) (again text rest)) → (taken : Taken Side (List ℕ)) → Matches SameRest (described make taken) (described again taken)
  described_alike make again each taken =
      matches_map (λ (x y : List ℕ). x ≡ y) SameRest (λ text. make text taken.rest) (λ text. again text taken.rest) (first_part taken.parts) (first_part taken.parts) (matches_self _ (λ x. refl) (first_part taken.parts))
      (λ x y same. each x taken.rest ∙ ap (λ text. (again text taken.rest).rest) same)

  same : (o : Option Spelled) → Matches SameRest o o
  same o = matches_self SameRest (λ x. refl) o

  form_alike : (form : Form) (note : Note) → Matches SameRest (spelled_as one form note) (spelled_as other form note)
  unfolding spelled_as
  form_alike (Form.TextForm property) note = same (as_text property note)
  form_alike (Form.WordForm property) note = same (as_word property note)
  form_alike (Form.LinkForm property) note =
      matches_where SameRest (bytes_eq note.property property) _ _
      (matches_map (Any (List ℕ) (List ℕ)) SameRest _ _ (id_of_value one note.value) (id_of_value other note.value) (value_id note.value) (λ x y r. refl))
  form_alike (Form.TruthForm property) note = same (as_truth property note)
  form_alike Form.DefinitionForm note = same (as_definition note)
  form_alike Form.SynonymForm note =
      matches_behind SameRest _ _ (scope_of_property note.property)
      (λ scope. matches_map (λ (x y : List ℕ). x ≡ y) SameRest (λ text. synonym_parts one text scope note.sides) (λ text. synonym_parts other text scope note.sides) (text_of_value note.value) (text_of_value note.value) (matches_self _ (λ x. refl) (text_of_value note.value))
      (λ x y same. synonym_rest x scope note.sides ∙ ap (λ text. (synonym_parts other text scope note.sides).rest) same))
  form_alike Form.XrefForm note = same (as_xref note)
  form_alike Form.ValueForm note =
      matches_then (Any (List ℕ) (List ℕ)) SameRest _ _ (one.id note.property) (other.id note.property) (alike.ids note.property)
      (λ x y r. matches_map (Any Value Value) SameRest _ _ (as_value_of one x note.value) (as_value_of other y note.value) (noted_alike x y note.value) (λ v w s. refl))
  form_alike Form.SubsetForm note =
      matches_where SameRest (bytes_eq note.property (own_property _)) _ _
      (matches_then (Any (List ℕ) (List ℕ)) SameRest _ _ (id_of_value one note.value) (id_of_value other note.value) (value_id note.value)
      (λ x y r. described_alike (λ text rest. spelled (value.SubsetDef x text) rest) (λ text rest. spelled (value.SubsetDef y text) rest) (λ text rest. refl) (take_one (text_of rdfs_comment) note.sides)))
  form_alike Form.TypeForm note =
      matches_where SameRest (bytes_eq note.property (own_property _)) _ _
      (matches_then (Any (List ℕ) (List ℕ)) SameRest _ _ (id_of_value one note.value) (id_of_value other note.value) (value_id note.value)
      (λ x y r. described_alike (synonym_type_parts x) (synonym_type_parts y) (λ text rest. refl) (take_one (text_of rdfs_comment) note.sides)))

  clause_alike : (note : Note) (tag : List ℕ) → Alike (clause_by one note tag) (clause_by other note tag)
  unfolding clause_by
  clause_alike note tag =
      matches_behind (Any Clause Clause) _ _ (form_of tag)
      (λ form. matches_then SameRest (Any Clause Clause) (clause_with tag) (clause_with tag) (spelled_as one form note) (spelled_as other form note) (form_alike form note)
      (λ x y same. alike_map _ _ (qualifiers_of x.rest) (qualifiers_of y.rest) (subst (λ rest. Alike (qualifiers_of x.rest) (qualifiers_of rest)) same (alike_self (qualifiers_of x.rest)))))

  pub spelling_alike : (kind : FrameKind) (note : Note) → Alike (spelling one kind note) (spelling other kind note)
  unfolding spelling
  spelling_alike kind note = alike_first (clause_by one note) (clause_by other note) (tags_tried kind) (clause_alike note)
