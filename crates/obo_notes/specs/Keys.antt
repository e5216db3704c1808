-- Qualifiers as annotations of an axiom, and back. (OBO Flat File Format 1.4, trailing modifiers; the properties are our own.)
use Rattle.std.specs.Prelude.{ℕ, Bool, not, ◌&&◌, ◌==◌, List, [], ◌∷◌, ◌++◌, codes, if◌then◌else◌, length, Option, None, Some}
use Rattle.std.specs.List.{list_all, list_any}
use Rattle.std.specs.Option.{is_none, option_and_then, option_map, option_or}
use Rattle.std.specs.Str.{bytes_eq, is_utf8}
use Rattle.percent_encoding.specs.Percent.{percent_decode}
use Rattle.iri_map.specs.Escape.{escaped_part, escaped_url}
use Rattle.iri_map.specs.Id.{is_url}
use Rattle.iri_map.specs.Split.{after_start}
use Rattle.obo_clause.specs.Marks.{bare}
use Rattle.obo_clause.specs.Vocabulary.{is_key_mark}
use Rattle.obo_clause.specs.declared.clause.Qualifier.{Qualifier}
use Rattle.owl_axioms.specs.declared.annotation.NoteValue.{NoteValue}
use Rattle.owl_axioms.specs.declared.annotation.NoteValue.TheVariants.{Link, Text, Typed}
use Rattle.owl_axioms.specs.declared.annotation.Side.{Side}
use Rattle.obo_notes.specs.Context.{is_text, where_true}
use Rattle.obo_notes.specs.Vocabulary.{obo_in_owl}

-- the property of a key
unfoldable pub key_property : List ℕ → List ℕ
key_property key = if is_url key then escaped_url key else obo_in_owl ++ escaped_part key

-- what a line can have as a key
unfoldable pub is_key : List ℕ → Bool
is_key key = not (length key == 0) && list_all (λ byte. is_key_mark (bare byte)) key && is_utf8 key

-- the keys that have a meaning of their own, and give no annotation
abbrev pub reserved_keys : List (List ℕ)
reserved_keys =
    codes "all_only" ∷ codes "cardinality" ∷ codes "minCardinality" ∷ codes "maxCardinality" ∷
    codes "gci_relation" ∷ codes "gci_filler" ∷ []

unfoldable pub is_reserved_key : List ℕ → Bool
is_reserved_key key = list_any (λ one. bytes_eq one key) reserved_keys

-- the key gives the property
abbrev pub gives : List ℕ → List ℕ → Bool
gives property key = is_key key && not (is_reserved_key key) && bytes_eq (key_property key) property

-- the key, if it gives the property
abbrev pub key_if : List ℕ → List ℕ → Option (List ℕ)
key_if property key = where_true (gives property key) (Some key)

-- the key of a property: what stands behind that of oboInOwl, or the property itself
unfoldable pub key_of : List ℕ → Option (List ℕ)
key_of property =
    option_or (option_and_then (λ rest. key_if property (percent_decode rest)) (after_start obo_in_owl property))
    (key_if property property)

-- the annotation with a text alone
abbrev pub text_side : List ℕ → List ℕ → Side
text_side property text = record { property = property; value = Text text; label = None }

-- a qualifier as an annotation
abbrev pub side_of_qualifier : Qualifier → Side
side_of_qualifier qualifier = text_side (key_property qualifier.key) qualifier.value

-- the text of a value, where a line can hold it
abbrev pub text_of_value : NoteValue → Option (List ℕ)
text_of_value (Text text) = where_true (is_text text) (Some text)
text_of_value (Typed text datatype) = None
text_of_value (Link iri) = None

-- the text of an annotation without a label
abbrev pub plain_text : Side → Option (List ℕ)
plain_text side = where_true (is_none side.label) (text_of_value side.value)

-- an annotation as a qualifier
unfoldable pub qualifier_of : Side → Option Qualifier
qualifier_of side =
    option_and_then (λ key. option_map (λ text. record { key = key; value = text }) (plain_text side)) (key_of side.property)
