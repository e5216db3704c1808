-- The four forms of an id: which IRI each one names.
use Rattle.std.proofs.Common.{◌≡◌, ℕ, true, false, List, [], ◌∷◌, ◌++◌, codes, Option, Some, None, refl, sym, subst, ◌⊎◌, inl, inr, ⊎_elim, arith}
use Rattle.std.proofs.lemmas.Bool.{and_parts, both_ways, cases_Bool}
use Rattle.std.proofs.lemmas.Bool.Decides.{nat_tests}
use Rattle.std.proofs.lemmas.List.Elements.{All-cons}
use Rattle.std.proofs.lemmas.List.Sums.{AllPass-from_list_all}
use Rattle.std.specs.Char.{is_ascii_alphabetic}
use Rattle.std.specs.List.{AllPass}
use Rattle.iri_map.specs.Escape.{escaped_part, escaped_url}
use Rattle.iri_map.specs.Split.{Parts, split_at_first}
use Rattle.iri_map.specs.Id.{base, colon, is_canonical, is_url, is_prefix, is_word_byte, iri_of, plain_iri}

pub iri_of-url : (id ontology : List ℕ) → is_url id ≡ true → iri_of id ontology ≡ escaped_url id
unfolding iri_of
iri_of-url id ontology url = rw url refl

-- an id that is no URL, with a `:`
pub iri_of-canonical : (id ontology : List ℕ) (parts : Parts) → is_url id ≡ false → split_at_first colon id ≡ Some parts → is_canonical parts ≡ true → iri_of id ontology ≡ base ++ parts.0 ++ codes "_" ++ parts.1
unfolding iri_of
iri_of-canonical id ontology parts url split canonical = rw (url, split, canonical) refl

pub iri_of-prefixed : (id ontology : List ℕ) (parts : Parts) → is_url id ≡ false → split_at_first colon id ≡ Some parts → is_canonical parts ≡ false → iri_of id ontology ≡ base ++ escaped_part parts.0 ++ codes "#_" ++ escaped_part parts.1
unfolding iri_of
iri_of-prefixed id ontology parts url split canonical = rw (url, split, canonical) refl

pub iri_of-plain : (id ontology : List ℕ) → is_url id ≡ false → split_at_first colon id ≡ None → iri_of id ontology ≡ plain_iri id ontology
unfolding iri_of
iri_of-plain id ontology url split = rw (url, split) refl

-- what holds of the IRI of each form holds of every IRI
pub record EachForm (id ontology : List ℕ) (P : List ℕ → Type 0) : Type 0 where
  pub url : is_url id ≡ true → P (escaped_url id)
  pub canonical : (parts : Parts) → split_at_first colon id ≡ Some parts → is_canonical parts ≡ true → P (base ++ parts.0 ++ codes "_" ++ parts.1)
  pub prefixed : (parts : Parts) → split_at_first colon id ≡ Some parts → P (base ++ escaped_part parts.0 ++ codes "#_" ++ escaped_part parts.1)
  pub plain : P (plain_iri id ontology)

option_cases : {X : Type 0} (o : Option X) → ((x : X) × (o ≡ Some x)) ⊎ (o ≡ None)
option_cases None = inr refl
option_cases (Some x) = inl (x, refl)

with_colon : (id ontology : List ℕ) (P : List ℕ → Type 0) → EachForm id ontology P → is_url id ≡ false → (parts : Parts) → split_at_first colon id ≡ Some parts → P (iri_of id ontology)
with_colon id ontology P each url parts split =
    ⊎_elim
    (λ yes. subst P (sym (iri_of-canonical id ontology parts url split yes)) (each.canonical parts split yes))
    (λ not_so. subst P (sym (iri_of-prefixed id ontology parts url split not_so)) (each.prefixed parts split))
    (cases_Bool (is_canonical parts))

pub iri_of-each : (id ontology : List ℕ) (P : List ℕ → Type 0) → EachForm id ontology P → P (iri_of id ontology)
iri_of-each id ontology P each =
    ⊎_elim
    (λ yes. subst P (sym (iri_of-url id ontology yes)) (each.url yes))
    (λ url. ⊎_elim
    (λ found. with_colon id ontology P each url found.0 found.1)
    (λ split. subst P (sym (iri_of-plain id ontology url split)) each.plain)
    (option_cases (split_at_first colon id)))
    (cases_Bool (is_url id))

-- ---- prefixes

word_from_letter : (b : ℕ) → is_ascii_alphabetic b ≡ true → is_word_byte b ≡ true
word_from_letter b letter = grind (arith, nat_tests)

-- a prefix has ASCII letters, digits and `_` alone
pub prefix_bytes : (bs : List ℕ) → is_prefix bs ≡ true → AllPass is_word_byte bs
prefix_bytes [] prefix = absurd (both_ways _ refl prefix)
prefix_bytes (b ∷ bs) prefix =
    let parts = and_parts _ _ prefix in
    All-cons (λ x. is_word_byte x ≡ true) b bs (word_from_letter b parts.0) (AllPass-from_list_all is_word_byte bs parts.1)
