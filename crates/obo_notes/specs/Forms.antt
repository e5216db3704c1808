-- The forms of notes: what a value says in a clause of each form, and which value says a note. (OBO Flat File Format 1.4,
-- its mapping to OWL 2, in our own profile.)
use Rattle.std.specs.Prelude.{ℕ, Bool, true, false, not, ◌&&◌, List, [], ◌∷◌, ◌++◌, codes, if◌then◌else◌, Option, None, Some, map}
use Rattle.std.specs.Option.{option_and_then, option_map, option_to_list}
use Rattle.std.specs.Str.{bytes_eq}
use Rattle.obo_clause.specs.declared.clause.Scope.{Scope}
use Rattle.obo_clause.specs.declared.clause.Scope.TheVariants as scope
use Rattle.obo_clause.specs.declared.clause.Value.{Value}
use Rattle.obo_clause.specs.declared.clause.Value.TheVariants as value
use Rattle.owl_axioms.specs.declared.annotation.NoteValue.{NoteValue}
use Rattle.owl_axioms.specs.declared.annotation.NoteValue.TheVariants.{Link, Text, Typed}
use Rattle.owl_axioms.specs.declared.annotation.Side.{Side}
use Rattle.owl_axioms.specs.Vocabulary.{rdfs_label}
use Rattle.text_sets.specs.Parts.{Taken, first_some, take_all, take_one}
use Rattle.text_sets.specs.Sorted.{sorted_by}
use Rattle.clause_printer.specs.Printing.{xref_text}
use Rattle.obo_notes.specs.Context.{Reading, Writing, datatype_iri, datatype_word, is_text, where_true}
use Rattle.obo_notes.specs.Keys.{text_of_value, text_side}
use Rattle.obo_notes.specs.Parts.{id_of_value, is_word, scope_of, side_of_scope, side_of_type, side_of_xref, text_of, type_of, xref_of}
use Rattle.obo_notes.specs.declared.note.Note.{Note}
use Rattle.obo_notes.specs.Vocabulary.{has_dbxref, iao_definition, own_property, rdfs_comment, xsd_boolean, xsd_string}

-- the forms
pub data Form : Type 0 where
  -- name: a wheel
  TextForm : List ℕ → Form
  -- alt_id: EX:2
  WordForm : List ℕ → Form
  -- subset: slim
  LinkForm : List ℕ → Form
  -- is_obsolete: true
  TruthForm : List ℕ → Form
  DefinitionForm : Form
  SynonymForm : Form
  XrefForm : Form
  ValueForm : Form
  SubsetForm : Form
  TypeForm : Form

-- a note by its property, its value and its annotations
abbrev pub note_of : List ℕ → NoteValue → List Side → Note
note_of property value sides = record { property = property; value = value; sides = sides }

-- the property of synonyms of a scope
unfoldable pub synonym_property : Scope → List ℕ
synonym_property scope.Exact = own_property (codes "hasExactSynonym")
synonym_property scope.Broad = own_property (codes "hasBroadSynonym")
synonym_property scope.Narrow = own_property (codes "hasNarrowSynonym")
synonym_property scope.Related = own_property (codes "hasRelatedSynonym")

-- the value of all notes of truth
abbrev pub is_true_value : NoteValue
is_true_value = Typed (codes "true") xsd_boolean

-- a text of a datatype
abbrev pub literal : List ℕ → List ℕ → NoteValue
literal text datatype = if bytes_eq datatype xsd_string then Text text else Typed text datatype

-- what a value says in a clause of a form
unfoldable pub said : Reading → Form → Value → Option Note
said reading (Form.TextForm property) (value.Text text) = Some (note_of property (Text text) [])
said reading (Form.WordForm property) (value.Id word) = Some (note_of property (Text word) [])
said reading (Form.LinkForm property) (value.Id id) = Some (note_of property (Link (reading.iri id)) [])
said reading (Form.TruthForm property) (value.Bool true) = Some (note_of property is_true_value [])
said reading Form.DefinitionForm (value.Def text xrefs) = Some (note_of iao_definition (Text text) (map side_of_xref xrefs))
said reading Form.SynonymForm (value.Synonym text scope type xrefs) =
    Some (note_of (synonym_property scope) (Text text) (map (side_of_type reading) (option_to_list type) ++ map side_of_xref xrefs))
said reading Form.XrefForm (value.XrefValue xref) =
    Some (note_of has_dbxref (Text xref.id) (map (text_side rdfs_label) (option_to_list xref.label)))
said reading Form.ValueForm (value.Literal relation text datatype) =
    Some (note_of (reading.iri relation) (literal text (datatype_iri reading datatype)) [])
said reading Form.ValueForm (value.Link relation target) =
    Some (note_of (reading.iri relation) (Link (reading.iri target)) [])
said reading Form.SubsetForm (value.SubsetDef id text) =
    Some (note_of (own_property (codes "subsetdef")) (Link (reading.iri id)) (text_side rdfs_comment text ∷ []))
said reading Form.TypeForm (value.SynonymDef id text scope) =
    Some (note_of (own_property (codes "synonymtypedef")) (Link (reading.iri id)) (text_side rdfs_comment text ∷ map side_of_scope (option_to_list scope)))
said reading _ _ = None

-- a value, and the annotations that it does not say
pub record Spelled : Type 0 where
  pub value : Value
  pub rest : List Side

abbrev pub spelled : Value → List Side → Spelled
spelled value rest = record { value = value; rest = rest }

-- the one part, if there is one
abbrev pub first_part : {Y : Type 0} → List Y → Option Y
first_part [] = None
first_part (y ∷ ys) = Some y

abbrev pub as_text : List ℕ → Note → Option Spelled
as_text property note =
    where_true (bytes_eq note.property property)
    (option_map (λ text. spelled (value.Text text) note.sides) (text_of_value note.value))

abbrev pub as_word : List ℕ → Note → Option Spelled
as_word property note =
    where_true (bytes_eq note.property property)
    (option_and_then (λ text. where_true (is_word text) (Some (spelled (value.Id text) note.sides))) (text_of_value note.value))

abbrev pub as_link : Writing → List ℕ → Note → Option Spelled
as_link writing property note =
    where_true (bytes_eq note.property property)
    (option_map (λ id. spelled (value.Id id) note.sides) (id_of_value writing note.value))

-- the value is that of notes of truth
abbrev pub is_truth : NoteValue → Bool
is_truth (Typed text datatype) = bytes_eq text (codes "true") && bytes_eq datatype xsd_boolean
is_truth (Text text) = false
is_truth (Link iri) = false

abbrev pub as_truth : List ℕ → Note → Option Spelled
as_truth property note =
    where_true (bytes_eq note.property property && is_truth note.value) (Some (spelled (value.Bool true) note.sides))

abbrev pub as_definition : Note → Option Spelled
as_definition note =
    where_true (bytes_eq note.property iao_definition)
    (option_map (λ text. let xrefs = take_all xref_of note.sides in spelled (value.Def text (sorted_by xref_text xrefs.parts)) xrefs.rest) (text_of_value note.value))

-- the scope of the synonyms of a property
abbrev pub scope_with : List ℕ → Scope → Option Scope
scope_with property one = where_true (bytes_eq (synonym_property one) property) (Some one)

unfoldable pub scope_of_property : List ℕ → Option Scope
scope_of_property property = first_some (scope_with property) (scope.Exact ∷ scope.Broad ∷ scope.Narrow ∷ scope.Related ∷ [])

abbrev pub synonym_parts : Writing → List ℕ → Scope → List Side → Spelled
synonym_parts writing text scope sides =
    let type = take_one (type_of writing) sides in
    let xrefs = take_all xref_of type.rest in
    spelled (value.Synonym text scope (first_part type.parts) (sorted_by xref_text xrefs.parts)) xrefs.rest

abbrev pub as_synonym : Writing → Note → Option Spelled
as_synonym writing note =
    option_and_then (λ scope. option_map (λ text. synonym_parts writing text scope note.sides) (text_of_value note.value))
    (scope_of_property note.property)

abbrev pub as_xref : Note → Option Spelled
as_xref note =
    where_true (bytes_eq note.property has_dbxref)
    (option_and_then (λ id. where_true (is_word id) (let label = take_one (text_of rdfs_label) note.sides in
    Some (spelled (value.XrefValue (record { id = id; label = first_part label.parts })) label.rest)))
    (text_of_value note.value))

-- the value of a relation
abbrev pub as_value_of : Writing → List ℕ → NoteValue → Option Value
as_value_of writing relation (Text text) = where_true (is_text text) (Some (value.Literal relation text (codes "xsd:string")))
as_value_of writing relation (Typed text datatype) =
    where_true (is_text text && not (bytes_eq datatype xsd_string))
    (option_map (λ word. value.Literal relation text word) (datatype_word writing datatype))
as_value_of writing relation (Link iri) = option_map (λ target. value.Link relation target) (writing.id iri)

abbrev pub as_property : Writing → Note → Option Spelled
as_property writing note =
    option_and_then (λ relation. option_map (λ one. spelled one note.sides) (as_value_of writing relation note.value)) (writing.id note.property)

-- a description, without which there is no such clause
abbrev pub described : (List ℕ → List Side → Spelled) → Taken Side (List ℕ) → Option Spelled
described make text = option_map (λ one. make one text.rest) (first_part text.parts)

abbrev pub as_subset : Writing → Note → Option Spelled
as_subset writing note =
    where_true (bytes_eq note.property (own_property (codes "subsetdef")))
    (option_and_then (λ id. described (λ text rest. spelled (value.SubsetDef id text) rest) (take_one (text_of rdfs_comment) note.sides))
    (id_of_value writing note.value))

abbrev pub synonym_type_parts : List ℕ → List ℕ → List Side → Spelled
synonym_type_parts id text rest =
    let scope = take_one scope_of rest in spelled (value.SynonymDef id text (first_part scope.parts)) scope.rest

abbrev pub as_synonym_type : Writing → Note → Option Spelled
as_synonym_type writing note =
    where_true (bytes_eq note.property (own_property (codes "synonymtypedef")))
    (option_and_then (λ id. described (synonym_type_parts id) (take_one (text_of rdfs_comment) note.sides))
    (id_of_value writing note.value))

-- the value that says a note in a clause of a form, with what is left for qualifiers
unfoldable pub spelled_as : Writing → Form → Note → Option Spelled
spelled_as writing (Form.TextForm property) note = as_text property note
spelled_as writing (Form.WordForm property) note = as_word property note
spelled_as writing (Form.LinkForm property) note = as_link writing property note
spelled_as writing (Form.TruthForm property) note = as_truth property note
spelled_as writing Form.DefinitionForm note = as_definition note
spelled_as writing Form.SynonymForm note = as_synonym writing note
spelled_as writing Form.XrefForm note = as_xref note
spelled_as writing Form.ValueForm note = as_property writing note
spelled_as writing Form.SubsetForm note = as_subset writing note
spelled_as writing Form.TypeForm note = as_synonym_type writing note
