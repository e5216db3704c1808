-- An IRI that has an id in an ontology of one name has one in an ontology of any name: at least itself, as a URL.
use Rattle.std.proofs.Common.{◌≡◌, ℕ, List, true, ◌&&◌, Some, refl, sym, subst, ◌∙◌}
use Rattle.std.specs.Option.{IsSome}
use Rattle.std.specs.Str.{bytes_eq}
use Rattle.iri_map.specs.Escape.{escaped_url}
use Rattle.iri_map.specs.Id.{is_url}
use Rattle.iri_map.proofs.CandidateLemmas.{bytes_eq-refl}
use Rattle.obo_notes.specs.Context.{Agree, Reading, Writing, reading_in, url_name, where_true, writing_in}
use Rattle.obo_notes.proofs.ContextLemmas.{Agree-in}
use Rattle.obo_notes.proofs.PartCovers.{some_value}
use Rattle.spelling_laws.proofs.Matching.{Alike, alike_ways}

-- two writings have ids of the same IRIs, which are clean URLs
pub record WriteAlike (one other : Writing) : Type 0 where
  pub ids : (iri : List ℕ) → Alike (one.id iri) (other.id iri)
  pub role_ids : (iri : List ℕ) → Alike (one.role_id iri) (other.role_id iri)
  pub urls : (iri : List ℕ) → IsSome (one.id iri) → IsSome (url_name iri)

module _ (reading : Reading) (writing : Writing) (agree : Agree reading writing) where
  clean : (iri : List ℕ) → IsSome (writing.id iri) → (is_url iri ≡ true) × (escaped_url iri ≡ iri)
  clean iri some =
      let id = some_value (writing.id iri) some in
      subst (λ i. (is_url i ≡ true) × (escaped_url i ≡ i)) (agree.ids iri id.0 id.1).1 (agree.clean id.0)

  is_named : (iri : List ℕ) → IsSome (writing.id iri) → IsSome (url_name iri)
  is_named iri some =
      let is = clean iri some in
      let test : (is_url iri && bytes_eq (escaped_url iri) iri) ≡ true = (λ i. is.0 i && bytes_eq (is.1 i) iri) ∙ bytes_eq-refl iri in
      subst (λ t. IsSome (where_true t (Some iri))) (sym test) refl

  has_id : (iri : List ℕ) → is_url iri ≡ true → escaped_url iri ≡ iri → IsSome (writing.id iri)
  has_id iri url same = subst (λ i. IsSome (writing.id i)) (agree.urls iri url same) (agree.iris iri)

pub id_moves : (one other : List ℕ) (iri : List ℕ) → IsSome ((writing_in one).id iri) → IsSome ((writing_in other).id iri)
id_moves one other iri some =
    let is = clean (reading_in one) (writing_in one) (Agree-in one) iri some in
    has_id (reading_in other) (writing_in other) (Agree-in other) iri is.0 is.1

pub write_alike : (one other : List ℕ) → WriteAlike (writing_in one) (writing_in other)
write_alike one other = record {
  ids = λ iri. alike_ways ((writing_in one).id iri) ((writing_in other).id iri) (id_moves one other iri) (id_moves other one iri);
  role_ids = λ iri. alike_ways ((writing_in one).role_id iri) ((writing_in other).role_id iri) (id_moves one other iri) (id_moves other one iri);
  urls = is_named (reading_in one) (writing_in one) (Agree-in one);
}
