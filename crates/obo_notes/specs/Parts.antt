-- Annotations that a clause has as parts of its value: the entries of an xref list, a label or text, a type and a scope.
-- (OBO Flat File Format 1.4, definitions, synonyms, xrefs and the typedefs of the header.)
use Rattle.std.specs.Prelude.{ℕ, Bool, not, ◌&&◌, ◌==◌, List, [], ◌∷◌, length, Option, None, Some}
use Rattle.std.specs.Option.{is_none, option_and_then}
use Rattle.std.specs.Str.{bytes_eq}
use Rattle.obo_clause.specs.declared.clause.Scope.{Scope}
use Rattle.obo_clause.specs.declared.clause.Scope.TheVariants as scope
use Rattle.obo_clause.specs.declared.clause.Xref.{Xref}
use Rattle.obo_clause.specs.Spelling.{scope_word}
use Rattle.owl_axioms.specs.declared.annotation.NoteValue.{NoteValue}
use Rattle.owl_axioms.specs.declared.annotation.NoteValue.TheVariants.{Link, Text, Typed}
use Rattle.owl_axioms.specs.declared.annotation.Side.{Side}
use Rattle.text_sets.specs.Parts.{first_some}
use Rattle.obo_notes.specs.Context.{Reading, Writing, is_text, where_true}
use Rattle.obo_notes.specs.Keys.{plain_text, text_of_value, text_side}
use Rattle.obo_notes.specs.Vocabulary.{has_dbxref, has_scope, has_synonym_type}

-- an entry of an xref list as an annotation
abbrev pub side_of_xref : Xref → Side
side_of_xref xref = record { property = has_dbxref; value = Text xref.id; label = xref.label }

-- a label that a line can hold, or none
abbrev pub is_label : Option (List ℕ) → Bool
is_label None = Bool.true
is_label (Some label) = is_text label

-- a text that a line can hold as a word
abbrev pub is_word : List ℕ → Bool
is_word word = not (length word == 0) && is_text word

-- an entry with a label, where a word can be its id
abbrev pub xref_with : Option (List ℕ) → List ℕ → Option Xref
xref_with label id = where_true (is_word id) (Some (record { id = id; label = label }))

-- an annotation as an entry of an xref list
unfoldable pub xref_of : Side → Option Xref
xref_of side =
    where_true (bytes_eq side.property has_dbxref && is_label side.label)
    (option_and_then (xref_with side.label) (text_of_value side.value))

-- an annotation as a text of this property
unfoldable pub text_of : List ℕ → Side → Option (List ℕ)
text_of property side = where_true (bytes_eq side.property property) (plain_text side)

-- a synonym type as an annotation
abbrev pub side_of_type : Reading → List ℕ → Side
side_of_type reading id = record { property = has_synonym_type; value = Link (reading.iri id); label = None }

-- the id of a value that is a link
abbrev pub id_of_value : Writing → NoteValue → Option (List ℕ)
id_of_value writing (Link iri) = writing.id iri
id_of_value writing (Text text) = None
id_of_value writing (Typed text datatype) = None

-- an annotation as a synonym type
unfoldable pub type_of : Writing → Side → Option (List ℕ)
type_of writing side =
    where_true (bytes_eq side.property has_synonym_type && is_none side.label) (id_of_value writing side.value)

-- the scope that a word is
abbrev pub scope_if : List ℕ → Scope → Option Scope
scope_if word one = where_true (bytes_eq (scope_word one) word) (Some one)

unfoldable pub scope_of_word : List ℕ → Option Scope
scope_of_word word = first_some (scope_if word) (scope.Exact ∷ scope.Broad ∷ scope.Narrow ∷ scope.Related ∷ [])

-- the scope of a synonym type as an annotation, and back
abbrev pub side_of_scope : Scope → Side
side_of_scope one = text_side has_scope (scope_word one)

unfoldable pub scope_of : Side → Option Scope
scope_of side = option_and_then scope_of_word (text_of has_scope side)
