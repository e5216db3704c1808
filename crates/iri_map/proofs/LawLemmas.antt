-- The IRI of an id form by form, and the canonical id of its own IRI.
use Rattle.std.proofs.Common.{◌≡◌, ℕ, ◌<◌, Bool, true, false, not, ◌||◌, ◌==◌, List, [], ◌∷◌, ◌++◌, codes, length, drop, All, Some, refl, sym, ap, subst, ◌∙◌, ⊎_elim, arith, length-append}
use Rattle.std.specs.Char.{is_ascii_digit}
use Rattle.std.specs.List.{AllPass, list_all}
use Rattle.std.proofs.lemmas.Bool.{and_from, and_parts, and_right, both_ways, cond-true, false_from_ne_true, or_cases, or_left, or_parts}
use Rattle.std.proofs.lemmas.Bool.Decides.{nat_tests}
use Rattle.std.proofs.lemmas.List.Elements.{All-append, All-cons, All-nil, All-weaker}
use Rattle.std.proofs.lemmas.List.Sums.{AllPass-from_list_all}
use Rattle.std.proofs.lemmas.Option.{same_Some}
use Rattle.rel_io.specs.Texts.{carriage_return, holds_byte, is_readable}
use Rattle.iri_map.specs.Escape.{escaped_part}
use Rattle.iri_map.specs.Split.{Parts, split_at_first}
use Rattle.iri_map.specs.Id.{base, colon, iri_of, is_number, is_prefix, is_url, is_word_byte}
use Rattle.iri_map.specs.Candidate.{candidates, canonical_candidate, id_of, names_iri}
use Rattle.iri_map.specs.Laws.{CanonicalIdIsSettled, FollowsForms}
use Rattle.iri_map.proofs.SplitLemmas.{IsOther, split_at_first-none, split_at_first-parts}
use Rattle.iri_map.proofs.ReadableLemmas.{is_readable-ascii}
use Rattle.iri_map.proofs.FormLemmas.{iri_of-canonical, iri_of-plain, iri_of-prefixed, iri_of-url, prefix_bytes}
use Rattle.iri_map.proofs.CandidateLemmas.{bytes_eq-refl, canonical_candidate-canonical}
use Rattle.iri_map.proofs.UrlLemmas.{starts}

-- ---- texts without `:`

others_from_holds_byte : (b : ℕ) (bs : List ℕ) → holds_byte bs b ≡ false → All (IsOther b) bs
others_from_holds_byte b [] none = All-nil (IsOther b)
others_from_holds_byte b (c ∷ cs) none =
    let parts = or_parts (c == b) (holds_byte cs b) none in
    All-cons (IsOther b) c cs parts.0 (others_from_holds_byte b cs parts.1)

word_is_no_colon : (b : ℕ) → is_word_byte b ≡ true → IsOther colon b
word_is_no_colon b word = grind (arith, nat_tests)

split_at_prefix : (prefix number : List ℕ) → is_prefix prefix ≡ true → split_at_first colon (prefix ++ colon ∷ number) ≡ Some (prefix, number)
split_at_prefix prefix number is =
    split_at_first-parts colon prefix number (All-weaker (λ b. is_word_byte b ≡ true) (IsOther colon) word_is_no_colon prefix (prefix_bytes prefix is))

-- ---- no canonical id and no text without `:` is a URL

no_number : (more : List ℕ) → is_number (47 ∷ more) ≡ false
no_number more = and_right (not (length (47 ∷ more) == 0)) (list_all is_ascii_digit (47 ∷ more)) refl

-- what follows the first `:` of a URL is no number
no_number_in_url : (start rest id : List ℕ) (parts : Parts) → id ≡ start ++ rest → split_at_first colon id ≡ Some parts → (front : List ℕ) (more : List ℕ) → split_at_first colon (start ++ rest) ≡ Some (front, 47 ∷ more) → is_number parts.1 ≡ false
no_number_in_url start rest id parts is split front more cut =
    let same : (front, 47 ∷ more) ≡ parts = same_Some (front, 47 ∷ more) parts (sym cut ∙ ap (split_at_first colon) (sym is) ∙ split) in
    subst (λ (q : Parts). is_number q.1 ≡ false) same (no_number more)

canonical_is_no_url : (id : List ℕ) (parts : Parts) → split_at_first colon id ≡ Some parts → is_number parts.1 ≡ true → is_url id ≡ false
unfolding is_url
canonical_is_no_url id parts split number =
    false_from_ne_true _ (λ url. ⊎_elim
    (λ http. both_ways _ (no_number_in_url (codes "http://") (drop 7 id) id parts (starts (codes "http://") id http) split (codes "http") (47 ∷ drop 7 id) refl) number)
    (λ https. both_ways _ (no_number_in_url (codes "https://") (drop 8 id) id parts (starts (codes "https://") id https) split (codes "https") (47 ∷ drop 8 id) refl) number)
    (or_cases _ _ url))

url_holds_colon : (id : List ℕ) → is_url id ≡ true → holds_byte id colon ≡ true
unfolding is_url
url_holds_colon id url =
    ⊎_elim
    (λ http. subst (λ x. holds_byte x colon ≡ true) (sym (starts (codes "http://") id http)) refl)
    (λ https. subst (λ x. holds_byte x colon ≡ true) (sym (starts (codes "https://") id https)) refl)
    (or_cases _ _ url)

-- ---- form by form

canonical_form : (ontology prefix number : List ℕ) → is_prefix prefix ≡ true → is_number number ≡ true → iri_of (prefix ++ colon ∷ number) ontology ≡ base ++ prefix ++ codes "_" ++ number
canonical_form ontology prefix number is digits =
    let id = prefix ++ colon ∷ number in
    let split = split_at_prefix prefix number is in
    iri_of-canonical id ontology (prefix, number) (canonical_is_no_url id (prefix, number) split digits) split (and_from _ _ is digits)

plain_form : (id ontology : List ℕ) → holds_byte id colon ≡ false → iri_of id ontology ≡ base ++ escaped_part ontology ++ codes "#" ++ escaped_part id
plain_form id ontology none =
    iri_of-plain id ontology (false_from_ne_true _ (λ url. both_ways _ none (url_holds_colon id url))) (split_at_first-none colon id (others_from_holds_byte colon id none))

pub FollowsForms-all : (id ontology : List ℕ) → FollowsForms id ontology
FollowsForms-all id ontology = record {
  url = iri_of-url id ontology;
  canonical = λ prefix number is prefixes digits. ap (λ x. iri_of x ontology) is ∙ canonical_form ontology prefix number prefixes digits;
  prefixed = λ prefix local is none url other. iri_of-prefixed id ontology (prefix, local) url (ap (split_at_first colon) is ∙ split_at_first-parts colon prefix local (others_from_holds_byte colon prefix none)) other;
  plain = plain_form id ontology;
}

-- ---- canonical ids are settled

-- a byte of a canonical id
abbrev pub is_canonical_byte : ℕ → Bool
is_canonical_byte b = is_word_byte b || b == colon

canonical_is_ascii : (b : ℕ) → is_canonical_byte b ≡ true → b < 128
canonical_is_ascii b passes = grind (arith, nat_tests)

canonical_is_no_return : (b : ℕ) → is_canonical_byte b ≡ true → (b == carriage_return) ≡ false
canonical_is_no_return b passes = grind (arith, nat_tests)

canonical_from_word : (b : ℕ) → is_word_byte b ≡ true → is_canonical_byte b ≡ true
canonical_from_word b word = or_left _ _ word

canonical_from_digit : (b : ℕ) → is_ascii_digit b ≡ true → is_canonical_byte b ≡ true
canonical_from_digit b digit = grind (arith, nat_tests)

canonical_bytes : (prefix number : List ℕ) → is_prefix prefix ≡ true → is_number number ≡ true → AllPass is_canonical_byte (prefix ++ colon ∷ number)
canonical_bytes prefix number is digits =
    let P : ℕ → Type 0 = λ b. is_canonical_byte b ≡ true in
    All-append P prefix (colon ∷ number) (All-weaker (λ b. is_word_byte b ≡ true) P canonical_from_word prefix (prefix_bytes prefix is))
    (All-cons P colon number refl (All-weaker (λ b. is_ascii_digit b ≡ true) P canonical_from_digit number (AllPass-from_list_all is_ascii_digit number (and_parts _ _ digits).1)))

canonical_readable : (prefix number : List ℕ) → is_prefix prefix ≡ true → is_number number ≡ true → is_readable (prefix ++ colon ∷ number) ≡ true
canonical_readable prefix number is digits =
    is_readable-ascii is_canonical_byte canonical_is_ascii canonical_is_no_return (prefix ++ colon ∷ number) (omega (arith, length-append prefix (colon ∷ number))) (canonical_bytes prefix number is digits)

first_found : (iri ontology id : List ℕ) → canonical_candidate iri ≡ Some id → names_iri iri ontology id ≡ true → id_of iri ontology ≡ Some id
unfolding id_of candidates
first_found iri ontology id candidate names = rw candidate (cond-true _ _ _ names)

pub CanonicalIdIsSettled-all : (prefix number ontology : List ℕ) → CanonicalIdIsSettled prefix number ontology
CanonicalIdIsSettled-all prefix number ontology is digits =
    let id = prefix ++ colon ∷ number in
    let iri = canonical_form ontology prefix number is digits in
    first_found (iri_of id ontology) ontology id
    (ap canonical_candidate iri ∙ canonical_candidate-canonical prefix number digits)
    (and_from _ _ (canonical_readable prefix number is digits) (bytes_eq-refl (iri_of id ontology)))
