-- The id of an IRI: the first of four candidates, each one form of an id read backwards, that is readable and whose
-- IRI is the one given. (Own.)
use Rattle.std.specs.Prelude.{◌≢◌, ℕ, Bool, ◌&&◌, IsTrue, List, [], ◌∷◌, ◌++◌, codes, Option, Some}
use Rattle.std.specs.List.{filter_map, find}
use Rattle.std.specs.Option.{option_map, option_and_then}
use Rattle.std.specs.Str.{bytes_eq}
use Rattle.percent_encoding.specs.Percent.{percent_decode}
use Rattle.iri_map.specs.Escape.{escaped_part}
use Rattle.iri_map.specs.Split.{Parts, after_start, split_at_first, split_at_last}
use Rattle.rel_io.specs.Texts.{is_readable}
use Rattle.iri_map.specs.Id.{base, colon, underscore, iri_of}

-- `#`
abbrev pub hash : ℕ
hash = 35

-- Canonical: what follows the base, split at its last `_`
abbrev pub canonical_candidate : List ℕ → Option (List ℕ)
canonical_candidate iri =
    option_map (λ parts. parts.0 ++ colon ∷ parts.1)
    (option_and_then (split_at_last underscore) (after_start base iri))

-- two parts, the second behind a `_`, decoded
abbrev pub decoded_id : Parts → Option (List ℕ)
decoded_id parts =
    option_map (λ local. percent_decode parts.0 ++ colon ∷ percent_decode local)
    (after_start (codes "_") parts.1)

-- Prefixed: what follows the base, split at its first `#`, which `_` must follow, and both parts decoded
abbrev pub prefixed_candidate : List ℕ → Option (List ℕ)
prefixed_candidate iri =
    option_and_then decoded_id (option_and_then (split_at_first hash) (after_start base iri))

-- Plain: what follows the base, the ontology's name and `#`, decoded
abbrev pub plain_candidate : List ℕ → List ℕ → Option (List ℕ)
plain_candidate iri ontology =
    option_map percent_decode (after_start (base ++ escaped_part ontology ++ codes "#") iri)

-- the candidates in their order; the last is the IRI itself, as a URL
unfoldable pub candidates : List ℕ → List ℕ → List (List ℕ)
candidates iri ontology =
    filter_map (λ candidate. candidate)
    (canonical_candidate iri ∷ prefixed_candidate iri ∷ plain_candidate iri ontology ∷ Some iri ∷ [])

-- the id can stand in a line, and names this IRI
abbrev pub names_iri : List ℕ → List ℕ → List ℕ → Bool
names_iri iri ontology id = is_readable id && bytes_eq (iri_of id ontology) iri

-- the first candidate that fits
unfoldable pub id_of : List ℕ → List ℕ → Option (List ℕ)
id_of iri ontology = find (names_iri iri ontology) (candidates iri ontology)

-- no id that can stand in a line names the IRI
abbrev pub HasNoId : List ℕ → List ℕ → Type 0
HasNoId iri ontology = (id : List ℕ) → IsTrue (is_readable id) → iri_of id ontology ≢ iri
