-- The normalised value of an ontology's IRI.
use Rattle.std.proofs.Common.{◌≡◌, ℕ, ◌-◌, true, false, List, ◌++◌, codes, length, Option, Some, None, refl, sym, ap, subst, ◌∙◌, ◌⊎◌, inl, inr, ⊎_elim, append_assoc, arith, length-append}
use Rattle.std.specs.List.{find}
use Rattle.std.specs.Option.{option_to_list, unwrap_or}
use Rattle.std.proofs.Math.Seq.{drop-append_seam, take-append_seam}
use Rattle.std.proofs.lemmas.Bool.{and_parts, cases_Bool, cond-false, cond-true, not-true}
use Rattle.std.proofs.lemmas.Slice.Eq.{bytes_eq-Decides}
use Rattle.iri_map.specs.Escape.{escaped_part}
use Rattle.iri_map.specs.Split.{before_end}
use Rattle.rel_io.specs.Texts.{is_readable}
use Rattle.iri_map.specs.Id.{base, is_url}
use Rattle.iri_map.specs.Ontology.{IsNormalisedValue, is_short_name, normalised, ontology_iri, ontology_value, short_name_candidate, short_name_iri}
use Rattle.iri_map.specs.Laws.{IsCleanUrl, NameIsSettled}
use Rattle.iri_map.proofs.EscapeLemmas.{escaped_url_unchanged, percent_decode-escaped_part}
use Rattle.iri_map.proofs.ReadableLemmas.{bytes_from_readable}
use Rattle.iri_map.proofs.CandidateLemmas.{after_start-append, bytes_eq-refl}
use Rattle.iri_map.proofs.UrlLemmas.{IsCleanUrl-ontology_iri, ontology_iri-short, ontology_iri-url}

-- ---- the short name of an IRI

pub before_end-append : (end front : List ℕ) → before_end end (front ++ end) ≡ Some front
before_end-append end front =
    let place : length (front ++ end) - length end ≡ length front = omega (arith, length-append front end) in
    rw (place, drop-append_seam front end, take-append_seam front end) (cond-true _ _ _ (bytes_eq-refl end))

short_name_candidate-short_name_iri : (name : List ℕ) → is_readable name ≡ true → short_name_candidate (short_name_iri name) ≡ Some name
short_name_candidate-short_name_iri name readable =
    let joined : base ++ escaped_part name ++ codes ".owl" ≡ base ++ (escaped_part name ++ codes ".owl") = append_assoc base (escaped_part name) (codes ".owl") in
    rw (
      joined,
      after_start-append base (escaped_part name ++ codes ".owl"),
      before_end-append (codes ".owl") (escaped_part name),
      percent_decode-escaped_part name (bytes_from_readable name readable),
    )
    refl

-- the parts of the test
is_short_name-parts : (iri name : List ℕ) → is_short_name iri name ≡ true → (is_readable name ≡ true) × (is_url name ≡ false) × (short_name_iri name ≡ iri)
is_short_name-parts iri name short =
    let outer = and_parts _ _ short in
    let inner = and_parts _ _ outer.0 in
    (inner.0, not-true _ inner.1, (bytes_eq-Decides _ _).0 outer.1)

found_name : (iri name : List ℕ) → is_short_name iri name ≡ true → short_name_candidate iri ≡ Some name
found_name iri name short =
    let parts = is_short_name-parts iri name short in
    subst (λ i. short_name_candidate i ≡ Some name) parts.2 (short_name_candidate-short_name_iri name parts.0)

pub ontology_value-short : (iri name : List ℕ) → is_short_name iri name ≡ true → ontology_value iri ≡ name
unfolding ontology_value
ontology_value-short iri name short =
    ap (λ o. unwrap_or (find (is_short_name iri) (option_to_list o)) iri) (found_name iri name short)
    ∙ ap (λ o. unwrap_or o iri) (cond-true _ _ _ short)

-- where the test fails, the search gives nothing
cases_of_candidate : (iri : List ℕ) (candidate : Option (List ℕ)) → let value = unwrap_or (find (is_short_name iri) (option_to_list candidate)) iri in (is_short_name iri value ≡ true) ⊎ (value ≡ iri)
cases_of_candidate iri None = inr refl
cases_of_candidate iri (Some name) =
    ⊎_elim
    (λ short. inl (subst (λ v. is_short_name iri v ≡ true) (sym (ap (λ o. unwrap_or o iri) (cond-true _ _ _ short))) short))
    (λ fails. inr (ap (λ o. unwrap_or o iri) (cond-false _ _ _ fails)))
    (cases_Bool (is_short_name iri name))

-- the value is a short name of the IRI, or the IRI
ontology_value-cases : (iri : List ℕ) → (is_short_name iri (ontology_value iri) ≡ true) ⊎ (ontology_value iri ≡ iri)
unfolding ontology_value
ontology_value-cases iri = cases_of_candidate iri (short_name_candidate iri)

pub IsNormalisedValue-ontology_value : (iri : List ℕ) → IsNormalisedValue iri (ontology_value iri)
IsNormalisedValue-ontology_value iri = record {
  short = ontology_value-short iri;
  long = λ none. ⊎_elim (λ short. absurd (none _ short)) (λ same. same) (ontology_value-cases iri);
}

-- ---- the normalised value is settled

-- an IRI that is a URL with nothing to escape is the value of itself
own_iri : (iri : List ℕ) → IsCleanUrl iri → ontology_iri iri ≡ iri
own_iri iri own = ontology_iri-url iri own.url ∙ escaped_url_unchanged iri own.clean

ontology_iri-normalised : (value : List ℕ) → ontology_iri (normalised value) ≡ ontology_iri value
ontology_iri-normalised value =
    ⊎_elim
    (λ short.
    let parts = is_short_name-parts (ontology_iri value) (normalised value) short in
    ontology_iri-short (normalised value) parts.1 ∙ parts.2)
    (λ same. ap ontology_iri same ∙ own_iri (ontology_iri value) (IsCleanUrl-ontology_iri value))
    (ontology_value-cases (ontology_iri value))

pub NameIsSettled-all : (value : List ℕ) → NameIsSettled value
NameIsSettled-all value = record {
  same_iri = ontology_iri-normalised value;
  once = ap ontology_value (ontology_iri-normalised value);
}
