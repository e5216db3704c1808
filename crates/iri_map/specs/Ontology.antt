-- The name of an ontology: the IRI that a value of the header tag `ontology` gives, and the one spelling, the
-- normalised value, of all values that give one IRI. (Own, after the identifiers of the OBO Flat File Format 1.4.)
use Rattle.std.specs.Prelude.{◌≡◌, ℕ, Bool, not, ◌&&◌, List, ◌++◌, codes, if◌then◌else◌, IsTrue, Option, unwrap_or}
use Rattle.std.specs.List.{find}
use Rattle.std.specs.Option.{option_map, option_and_then, option_to_list}
use Rattle.std.specs.Str.{bytes_eq}
use Rattle.percent_encoding.specs.Percent.{percent_decode}
use Rattle.iri_map.specs.Escape.{escaped_part, escaped_url}
use Rattle.iri_map.specs.Split.{after_start, before_end}
use Rattle.rel_io.specs.Texts.{is_readable}
use Rattle.iri_map.specs.Id.{base, is_url}

-- what stands in place of a name in the IRIs of an ontology without one
abbrev pub temp : List ℕ
temp = codes "TEMP"

-- the name in the IRIs of an ontology
abbrev pub name_or_temp : Option (List ℕ) → List ℕ
name_or_temp name = unwrap_or name temp

-- the IRI of an ontology with a short name, as `http://purl.obolibrary.org/obo/go.owl` of `go`
abbrev pub short_name_iri : List ℕ → List ℕ
short_name_iri name = base ++ escaped_part name ++ codes ".owl"

-- the IRI of an ontology: a URL names itself, and any other value is a short name
unfoldable pub ontology_iri : List ℕ → List ℕ
ontology_iri value = if is_url value then escaped_url value else short_name_iri value

-- the text is a short name, can stand in a line, and gives this IRI
abbrev pub is_short_name : List ℕ → List ℕ → Bool
is_short_name iri name = is_readable name && not (is_url name) && bytes_eq (short_name_iri name) iri

-- what stands between the base and `.owl`, decoded
abbrev pub short_name_candidate : List ℕ → Option (List ℕ)
short_name_candidate iri =
    option_map percent_decode (option_and_then (before_end (codes ".owl")) (after_start base iri))

-- the normalised value: the short name that gives the IRI, or the IRI itself
unfoldable pub ontology_value : List ℕ → List ℕ
ontology_value iri =
    unwrap_or (find (is_short_name iri) (option_to_list (short_name_candidate iri))) iri

-- the normalised value of a value: that of the IRI which the value gives
abbrev pub normalised : List ℕ → List ℕ
normalised value = ontology_value (ontology_iri value)

-- what a normalised value is, whatever finds it: the one short name of the IRI, and where it has none the IRI itself
pub record IsNormalisedValue (iri value : List ℕ) : Type 0 where
  pub short : (name : List ℕ) → IsTrue (is_short_name iri name) → value ≡ name
  pub long : ((name : List ℕ) → ¬ IsTrue (is_short_name iri name)) → value ≡ iri
