-- What the layers above use of ids and IRIs: laws over all ids, IRIs and names of ontologies. (Own.)
use Rattle.std.specs.Prelude.{◌≡◌, ℕ, List, ◌∷◌, ◌++◌, codes, Contains, IsTrue, IsFalse, IfSome, IsSome, Some}
use Rattle.std.specs.List.{AllPass}
use Rattle.rel_io.specs.Texts.{holds_byte, is_readable}
use Rattle.iri_map.specs.Escape.{escaped_part, escaped_url, stays_in_url}
use Rattle.iri_map.specs.Id.{base, colon, iri_of, is_canonical, is_number, is_prefix, is_url}
use Rattle.iri_map.specs.Candidate.{candidates, id_of}
use Rattle.iri_map.specs.Ontology.{normalised, ontology_iri}

-- the IRI of an id, form by form, in the parts of which the id is made
pub record FollowsForms (id ontology : List ℕ) : Type 0 where
  pub url : IsTrue (is_url id) → iri_of id ontology ≡ escaped_url id
  pub canonical : (prefix number : List ℕ) → id ≡ prefix ++ colon ∷ number → IsTrue (is_prefix prefix)
      → IsTrue (is_number number) → iri_of id ontology ≡ base ++ prefix ++ codes "_" ++ number
  pub prefixed : (prefix local : List ℕ) → id ≡ prefix ++ colon ∷ local → IsFalse (holds_byte prefix colon)
      → IsFalse (is_url id) → IsFalse (is_canonical (prefix, local))
      → iri_of id ontology ≡ base ++ escaped_part prefix ++ codes "#_" ++ escaped_part local
  pub plain : IsFalse (holds_byte id colon)
      → iri_of id ontology ≡ base ++ escaped_part ontology ++ codes "#" ++ escaped_part id

-- what `id_of` gives can stand in a line, and has the IRI
abbrev pub IdNamesIri : List ℕ → List ℕ → Type 0
IdNamesIri iri ontology =
    IfSome (id_of iri ontology) (λ id. IsTrue (is_readable id) × (iri_of id ontology ≡ iri))

-- the IRI of an id is never without an id
abbrev pub IriHasId : List ℕ → List ℕ → Type 0
IriHasId id ontology = IsSome (id_of (iri_of id ontology) ontology)

-- an id that can stand in a line and is no URL is a candidate of its own IRI
abbrev pub IdIsCandidate : List ℕ → List ℕ → Type 0
IdIsCandidate id ontology =
    IsTrue (is_readable id) → IsFalse (is_url id) → Contains (candidates (iri_of id ontology) ontology) id

-- the id of an id's IRI, taken twice, is taken once
abbrev pub IdIsSettled : List ℕ → List ℕ → Type 0
IdIsSettled iri ontology =
    IfSome (id_of iri ontology) (λ id. id_of (iri_of id ontology) ontology ≡ Some id)

-- a canonical id is the id of its own IRI
abbrev pub CanonicalIdIsSettled : List ℕ → List ℕ → List ℕ → Type 0
CanonicalIdIsSettled prefix number ontology =
    let id = prefix ++ colon ∷ number in
    IsTrue (is_prefix prefix) → IsTrue (is_number number)
    → id_of (iri_of id ontology) ontology ≡ Some id

-- a normalised value gives the same IRI as the value, and is its own normalised value
pub record NameIsSettled (value : List ℕ) : Type 0 where
  pub same_iri : ontology_iri (normalised value) ≡ ontology_iri value
  pub once : normalised (normalised value) ≡ normalised value

-- a URL with nothing to escape: no byte up to the space, none from DEL on, and none of `<`, `>` and `"`
pub record IsCleanUrl (iri : List ℕ) : Type 0 where
  pub url : IsTrue (is_url iri)
  pub clean : AllPass stays_in_url iri
