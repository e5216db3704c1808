-- Notes: what a clause says in words, and the clause that says it. (OBO Flat File Format 1.4, its mapping to OWL 2.)
use Rattle.std.specs.Prelude.{ℕ, not, List, [], ◌∷◌, ◌++◌, codes, if◌then◌else◌, Option, None, Some, map, filter}
use Rattle.std.specs.Option.{option_and_then, option_map}
use Rattle.std.specs.Str.{bytes_eq}
use Rattle.obo_tags.specs.Table.{tags_of}
use Rattle.obo_tags.specs.declared.kind.FrameKind.{FrameKind}
use Rattle.clause_printer.specs.Printing.{qualifier_text}
use Rattle.obo_clause.specs.declared.clause.Clause.{Clause}
use Rattle.obo_clause.specs.declared.clause.Qualifier.{Qualifier}
use Rattle.owl_axioms.specs.Vocabulary.{rdfs_label}
use Rattle.owl_axioms.specs.Text.{side_text}
use Rattle.owl_axioms.specs.declared.annotation.Side.{Side}
use Rattle.text_sets.specs.Parts.{each_some, first_some}
use Rattle.text_sets.specs.Sorted.{sorted_by}
use Rattle.obo_notes.specs.Context.{Reading, Writing}
use Rattle.obo_notes.specs.Forms.{Form, Spelled, note_of, said, spelled_as}
use Rattle.obo_notes.specs.declared.note.Note.{Note}
use Rattle.obo_notes.specs.Keys.{qualifier_of, side_of_qualifier}
use Rattle.obo_notes.specs.Vocabulary.{iao_replaced_by, own_property, owl_deprecated, rdfs_comment}

-- a tag and the form of its notes
pub record Row : Type 0 where
  pub tag : List ℕ
  pub form : Form

abbrev pub row : List ℕ → Form → Row
row tag form = record { tag = tag; form = form }

-- tags whose property has their name
abbrev pub own_row : (List ℕ → Form) → List ℕ → Row
own_row form tag = row tag (form (own_property tag))

-- the tags of notes, in an order that agrees with the printed one in each frame kind, but `property_value` at the end
unfoldable pub rows : List Row
rows =
    own_row Form.TextForm (codes "data-version") ∷
    own_row Form.TextForm (codes "date") ∷
    own_row Form.TextForm (codes "saved-by") ∷
    own_row Form.TextForm (codes "auto-generated-by") ∷
    row (codes "subsetdef") Form.SubsetForm ∷
    row (codes "synonymtypedef") Form.TypeForm ∷
    own_row Form.TextForm (codes "default-namespace") ∷
    own_row Form.TextForm (codes "idspace") ∷
    own_row Form.TextForm (codes "remark") ∷
    own_row Form.TruthForm (codes "is_anonymous") ∷
    row (codes "name") (Form.TextForm rdfs_label) ∷
    row (codes "namespace") (Form.TextForm (own_property (codes "hasOBONamespace"))) ∷
    row (codes "alt_id") (Form.WordForm (own_property (codes "hasAlternativeId"))) ∷
    row (codes "def") Form.DefinitionForm ∷
    row (codes "comment") (Form.TextForm rdfs_comment) ∷
    row (codes "subset") (Form.LinkForm (own_property (codes "inSubset"))) ∷
    row (codes "synonym") Form.SynonymForm ∷
    row (codes "xref") Form.XrefForm ∷
    own_row Form.TruthForm (codes "builtin") ∷
    own_row Form.TruthForm (codes "is_anti_symmetric") ∷
    own_row Form.TruthForm (codes "is_cyclic") ∷
    own_row Form.TruthForm (codes "is_class_level") ∷
    own_row Form.TextForm (codes "created_by") ∷
    own_row Form.TextForm (codes "creation_date") ∷
    row (codes "is_obsolete") (Form.TruthForm owl_deprecated) ∷
    row (codes "replaced_by") (Form.LinkForm iao_replaced_by) ∷
    own_row Form.LinkForm (codes "consider") ∷
    row (codes "property_value") Form.ValueForm ∷ []

-- the form of the row, if it is of the tag
abbrev pub form_in : List ℕ → Row → Option Form
form_in tag row = if bytes_eq row.tag tag then Some row.form else None

-- the form of a tag's notes
unfoldable pub form_of : List ℕ → Option Form
form_of tag = first_some (form_in tag) rows

-- the annotations in the order of their texts, without repeats
abbrev pub sorted_sides : List Side → List Side
sorted_sides sides = sorted_by side_text sides

-- what a value and qualifiers say
abbrev pub with_qualifiers : List Qualifier → Note → Note
with_qualifiers qualifiers note =
    note_of note.property note.value (sorted_sides (note.sides ++ map side_of_qualifier qualifiers))

-- the note of a clause, if it is one that says a note
unfoldable pub meaning : Reading → Clause → Option Note
meaning reading clause =
    option_map (with_qualifiers clause.qualifiers)
    (option_and_then (λ form. said reading form clause.value) (form_of clause.tag))

-- annotations as qualifiers, in the order in which they are printed
abbrev pub qualifiers_of : List Side → Option (List Qualifier)
qualifiers_of sides = option_map (sorted_by qualifier_text) (each_some qualifier_of sides)

-- the clause of a tag that says a note, if there is one
abbrev pub clause_with : List ℕ → Spelled → Option Clause
clause_with tag one =
    option_map (λ qualifiers. record { tag = tag; value = one.value; qualifiers = qualifiers }) (qualifiers_of one.rest)

unfoldable pub clause_by : Writing → Note → List ℕ → Option Clause
clause_by writing note tag =
    option_and_then (λ form. option_and_then (clause_with tag) (spelled_as writing form note)) (form_of tag)

-- the tags of a frame kind as they are tried: in printed order, but `property_value` last
unfoldable pub tags_tried : FrameKind → List (List ℕ)
tags_tried kind = filter (λ tag. not (bytes_eq tag (codes "property_value"))) (tags_of kind) ++ codes "property_value" ∷ []

-- the clause that says a note in a frame of the kind: that of the first tag that gives it
unfoldable pub spelling : Writing → FrameKind → Note → Option Clause
spelling writing kind note = first_some (clause_by writing note) (tags_tried kind)
