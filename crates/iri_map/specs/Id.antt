-- Ids of OBO files and the IRIs that they name, by four forms of an id
-- (after the identifiers of the OBO Flat File Format 1.4).
use Rattle.std.specs.Prelude.{ℕ, Bool, false, not, ◌&&◌, ◌||◌, ◌==◌, nat_eq, length, List, [], ◌∷◌, ◌++◌, codes, if◌then◌else◌, Option, Some, None, unwrap_or}
use Rattle.std.specs.Char.{is_ascii_alphabetic, is_ascii_alphanumeric, is_ascii_digit}
use Rattle.std.specs.List.{list_all, starts_with}
use Rattle.std.specs.Option.{option_map, option_map_or, option_and_then, option_or}
use Rattle.iri_map.specs.Escape.{escaped_part, escaped_url}
use Rattle.iri_map.specs.Split.{Parts, split_at_first}

-- what the IRI of an id that is no URL begins with
unfoldable pub base : List ℕ
base = codes "http://purl.obolibrary.org/obo/"

-- `:`
abbrev pub colon : ℕ
colon = 58

-- `_`
abbrev pub underscore : ℕ
underscore = 95

-- the text begins with `http://` or `https://`
unfoldable pub is_url : List ℕ → Bool
is_url text = starts_with nat_eq text (codes "http://") || starts_with nat_eq text (codes "https://")

-- an ASCII letter or digit, or `_`
abbrev pub is_word_byte : ℕ → Bool
is_word_byte b = is_ascii_alphanumeric b || b == underscore

-- an ASCII letter, and then ASCII letters, digits or `_`
abbrev pub is_prefix : List ℕ → Bool
is_prefix [] = false
is_prefix (b ∷ bs) = is_ascii_alphabetic b && list_all is_word_byte bs

-- one ASCII digit or more
abbrev pub is_number : List ℕ → Bool
is_number text = not (length text == 0) && list_all is_ascii_digit text

-- a prefix and a number
abbrev pub is_canonical : Parts → Bool
is_canonical parts = is_prefix parts.0 && is_number parts.1

-- a canonical id, as `EX:0000001`
unfoldable pub is_canonical_id : List ℕ → Bool
is_canonical_id id = option_map_or is_canonical (split_at_first colon id) false

-- URL: the id is a URL, and names it
abbrev pub url_iri : List ℕ → Option (List ℕ)
url_iri id = if is_url id then Some (escaped_url id) else None

-- Canonical: a prefix, `:` and a number
abbrev pub canonical_iri : Parts → Option (List ℕ)
canonical_iri parts =
    if is_canonical parts then Some (base ++ parts.0 ++ codes "_" ++ parts.1) else None

-- Prefixed: any two parts around the first `:`
abbrev pub prefixed_iri : Parts → List ℕ
prefixed_iri parts = base ++ escaped_part parts.0 ++ codes "#_" ++ escaped_part parts.1

-- Plain: any id stands in the space of its ontology's name
abbrev pub plain_iri : List ℕ → List ℕ → List ℕ
plain_iri id ontology = base ++ escaped_part ontology ++ codes "#" ++ escaped_part id

-- the IRI of the first form that fits
unfoldable pub iri_of : List ℕ → List ℕ → List ℕ
iri_of id ontology =
    let parts = split_at_first colon id in
    let with_colon = option_or (option_and_then canonical_iri parts) (option_map prefixed_iri parts) in
    unwrap_or (option_or (url_iri id) with_colon) (plain_iri id ontology)
