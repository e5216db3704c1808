-- How ids are read and written in a document: what an id names, and by which id an IRI is written. (Own.)
use Rattle.std.specs.Prelude.{◌≡◌, ℕ, Bool, not, ◌&&◌, List, ◌++◌, codes, if◌then◌else◌, IsTrue, Option, None, Some}
use Rattle.std.specs.Option.{IsSome, is_none, option_and_then, option_or}
use Rattle.std.specs.Str.{bytes_eq, is_utf8}
use Rattle.percent_encoding.specs.Percent.{percent_decode}
use Rattle.iri_map.specs.Candidate.{id_of}
use Rattle.rel_io.specs.Texts.{carriage_return, holds_byte, is_readable}
use Rattle.iri_map.specs.Escape.{escaped_part, escaped_url}
use Rattle.iri_map.specs.Id.{iri_of, is_url}
use Rattle.iri_map.specs.Split.{after_start}
use Rattle.obo_notes.specs.Vocabulary.{xsd}

-- the IRI of an id, and of an id in the place of a relation
pub record Reading : Type 0 where
  pub iri : List ℕ → List ℕ
  pub role_iri : List ℕ → List ℕ

-- the id of an IRI, if it has one, and in the place of a relation
pub record Writing : Type 0 where
  pub id : List ℕ → Option (List ℕ)
  pub role_id : List ℕ → Option (List ℕ)

-- in a document whose ontology has this name, or the one in its place
abbrev pub reading_in : List ℕ → Reading
reading_in space = record { iri = λ id. iri_of id space; role_iri = λ id. iri_of id space }

abbrev pub writing_in : List ℕ → Writing
writing_in space = record { id = λ iri. id_of iri space; role_id = λ iri. id_of iri space }

-- what is written is read as the IRI, and can stand in a line
abbrev pub IsReadBack : (List ℕ → List ℕ) → (List ℕ → Option (List ℕ)) → Type 0
IsReadBack read write = (iri id : List ℕ) → write iri ≡ Some id → IsTrue (is_readable id) × (read id ≡ iri)

-- the IRI of an id has an id
abbrev pub IsWritten : (List ℕ → List ℕ) → (List ℕ → Option (List ℕ)) → Type 0
IsWritten read write = (id : List ℕ) → IsSome (write (read id))

-- ids are read as they were written, and all that are read can be written
pub record Agree (reading : Reading) (writing : Writing) : Type 0 where
  pub ids : IsReadBack reading.iri writing.id
  pub role_ids : IsReadBack reading.role_iri writing.role_id
  pub iris : IsWritten reading.iri writing.id
  pub role_iris : IsWritten reading.role_iri writing.role_id
  pub clean : (id : List ℕ) → IsTrue (is_url (reading.iri id)) × (escaped_url (reading.iri id) ≡ reading.iri id)
  pub urls : (iri : List ℕ) → IsTrue (is_url iri) → escaped_url iri ≡ iri → reading.iri iri ≡ iri

-- a text that a line can hold behind a quote: UTF-8, without a carriage return
unfoldable pub is_text : List ℕ → Bool
is_text text = is_utf8 text && not (holds_byte text carriage_return)

-- where the test is passed
abbrev pub where_true : {X : Type 0} → Bool → Option X → Option X
where_true test answer = if test then answer else None

-- `xsd:`
abbrev pub xsd_prefix : List ℕ
xsd_prefix = codes "xsd:"

-- the IRI of a datatype: of XML Schema, where a text that a line can hold stands behind `xsd:`, and else that of an id
abbrev pub datatype_by : Reading → List ℕ → Option (List ℕ) → List ℕ
datatype_by reading word None = reading.iri word
datatype_by reading word (Some name) = if is_text name then xsd ++ escaped_part name else reading.iri word

unfoldable pub datatype_iri : Reading → List ℕ → List ℕ
datatype_iri reading word = datatype_by reading word (after_start xsd_prefix word)

-- the name in `xsd:` of a datatype, where it has one
abbrev pub xsd_name : List ℕ → List ℕ → Option (List ℕ)
xsd_name iri name = where_true (is_text name && bytes_eq (xsd ++ escaped_part name) iri) (Some (xsd_prefix ++ name))

-- an id of the datatype that is no name in `xsd:`
abbrev pub other_name : List ℕ → Option (List ℕ)
other_name id = where_true (is_none (after_start xsd_prefix id)) (Some id)

-- the datatype as a URL
abbrev pub url_name : List ℕ → Option (List ℕ)
url_name iri = where_true (is_url iri && bytes_eq (escaped_url iri) iri) (Some iri)

-- the word of a datatype
unfoldable pub datatype_word : Writing → List ℕ → Option (List ℕ)
datatype_word writing iri =
    option_or (option_and_then (λ rest. xsd_name iri (percent_decode rest)) (after_start xsd iri))
    (option_or (option_and_then other_name (writing.id iri)) (url_name iri))
