-- Clauses with their ids settled, where each id is settled alike, in the place of a relation too. (Own.)
use Rattle.std.specs.Prelude.{ℕ, Bool, not, ◌&&◌, ◌||◌, List, [], ◌∷◌, codes, if◌then◌else◌, map, unwrap_or}
use Rattle.std.specs.Option.{option_map}
use Rattle.std.specs.List.{flat_map}
use Rattle.std.specs.Str.{bytes_eq}
use Rattle.clause_printer.specs.Printing.{qualifier_text, xref_text}
use Rattle.obo_clause.specs.declared.clause.Clause.{Clause}
use Rattle.obo_clause.specs.declared.clause.Qualifier.{Qualifier}
use Rattle.obo_clause.specs.declared.clause.Value.{Value}
use Rattle.obo_clause.specs.declared.clause.Value.TheVariants as value
use Rattle.text_sets.specs.Sets.{AreTold}
use Rattle.text_sets.specs.Sorted.{sorted_by}
use Rattle.obo_frames.specs.Framed.{Framed, framed}
use Rattle.obo_notes.specs.Context.{datatype_iri, datatype_word, reading_in, writing_in}
use Rattle.obo_notes.specs.Keys.{key_of, key_property}
use Rattle.obo_mapping.specs.Documents.{has_tag, is_header, is_import, is_raw, is_said_elsewhere, settled, settled_qualifier}

-- the id by which the IRI of an id is written
abbrev pub id_in : List ℕ → List ℕ → List ℕ
id_in space id = settled (reading_in space).iri (writing_in space).id id

-- the word for the datatype of a word
abbrev pub datatype_in : List ℕ → List ℕ → List ℕ
datatype_in space word = unwrap_or (datatype_word (writing_in space) (datatype_iri (reading_in space) word)) word

-- the key for the property of a key
abbrev pub key_in : List ℕ → List ℕ
key_in key = unwrap_or (key_of (key_property key)) key

abbrev pub value_in : List ℕ → Bool → Value → Value
value_in space is_literal (value.Id word) = value.Id (if is_literal then word else id_in space word)
value_in space is_literal (value.Pair first second) = value.Pair (id_in space first) (id_in space second)
value_in space is_literal (value.Def text xrefs) = value.Def text (sorted_by xref_text xrefs)
value_in space is_literal (value.Synonym text scope type xrefs) =
    value.Synonym text scope (option_map (id_in space) type) (sorted_by xref_text xrefs)
value_in space is_literal (value.Literal relation text datatype) =
    value.Literal (id_in space relation) text (datatype_in space datatype)
value_in space is_literal (value.Link relation target) = value.Link (id_in space relation) (id_in space target)
value_in space is_literal (value.SubsetDef word text) = value.SubsetDef (id_in space word) text
value_in space is_literal (value.SynonymDef word text scope) = value.SynonymDef (id_in space word) text scope
value_in space is_literal other = other

-- no two dbxrefs of the value print alike
abbrev pub XrefsAreTold : Value → Type 0
XrefsAreTold (value.Def text xrefs) = AreTold xref_text xrefs
XrefsAreTold (value.Synonym text scope type xrefs) = AreTold xref_text xrefs
XrefsAreTold _ = Unit {0}

-- the tag is one whose word stays as it is
abbrev pub is_literal_tag : List ℕ → Bool
is_literal_tag tag = bytes_eq tag (codes "alt_id") || bytes_eq tag (codes "import")

abbrev pub qualifiers_in : List Qualifier → List Qualifier
qualifiers_in qualifiers = sorted_by qualifier_text (map settled_qualifier qualifiers)

abbrev pub clause_in : List ℕ → Clause → Clause
clause_in space clause =
    if is_raw clause.value then clause else record {
      tag = clause.tag;
      value = value_in space (is_literal_tag clause.tag) clause.value;
      qualifiers = qualifiers_in clause.qualifiers;
    }

-- the id of the frame of a clause
abbrev pub frame_id_in : List ℕ → Framed → List ℕ
frame_id_in space one = if is_header one then one.id else id_in space one.id

abbrev pub kept_in : List ℕ → Framed → Framed
kept_in space one = framed one.frame (frame_id_in space one) (clause_in space one.clause)

-- a clause that the header of the normal form has anew
abbrev pub is_of_header : Framed → Bool
is_of_header one = is_header one && (has_tag (codes "format-version") one || has_tag (codes "ontology") one)

-- a clause is kept that is no axiom, and is said nowhere else
abbrev pub is_kept : Bool → Framed → Bool
is_kept is_untranslatable one = (is_import one || is_untranslatable) && not (is_said_elsewhere one)

-- what is kept of a clause
abbrev pub kept_of : List ℕ → Bool → Framed → List Framed
kept_of space is_untranslatable one = if is_kept is_untranslatable one then kept_in space one ∷ [] else []

-- what is kept of a document, where it is known what is not translated
abbrev pub all_kept : List ℕ → (Framed → Bool) → List Framed → List Framed
all_kept space is_untranslatable d = flat_map (λ one. kept_of space (is_untranslatable one) one) d
