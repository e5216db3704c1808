-- URLs: an IRI made here is a URL with nothing to escape.
use Rattle.std.proofs.Common.{◌≡◌, ℕ, ◌<◌, true, false, ◌==◌, List, [], ◌∷◌, ◌++◌, codes, length, take, drop, refl, sym, ap, subst, ◌∙◌, ⊎_elim, arith}
use Rattle.std.specs.Char.{is_ascii_digit}
use Rattle.std.specs.List.{AllPass, list_all}
use Rattle.std.specs.Str.{bytes_eq}
use Rattle.std.proofs.lemmas.Bool.{and_parts, cases_Bool, cond-false, cond-true, false≢true, or_cases}
use Rattle.std.proofs.lemmas.Bool.Decides.{Decides-eqb, nat_tests}
use Rattle.std.proofs.lemmas.List.Elements.{All-append, All-weaker}
use Rattle.std.proofs.lemmas.List.Sums.{AllPass-from_list_all, list_all-from_AllPass}
use Rattle.std.proofs.lemmas.Slice.Eq.{starts_is}
use Rattle.iri_map.specs.Escape.{escaped_part, escaped_url, stays_in_url}
use Rattle.rel_io.specs.Texts.{carriage_return, is_clean_iri, is_iri_byte, is_readable}
use Rattle.iri_map.specs.Id.{base, is_number, is_prefix, is_url, is_word_byte, iri_of}
use Rattle.iri_map.specs.Ontology.{ontology_iri, short_name_iri}
use Rattle.iri_map.specs.Laws.{IsCleanUrl}
use Rattle.iri_map.proofs.EscapeLemmas.{AllPass-escaped_part, AllPass-escaped_url, escaped_url-append, escaped_url_unchanged, implies_by_table, stays_in_url-high, stays_in_url-part}
use Rattle.iri_map.proofs.ReadableLemmas.{is_readable-ascii}
use Rattle.iri_map.proofs.FormLemmas.{EachForm, iri_of-each, prefix_bytes}

-- ---- the two beginnings

-- a text that begins as a URL is one of the two beginnings and a rest
pub starts : (start bs : List ℕ) → bytes_eq start (take (length start) bs) ≡ true → bs ≡ start ++ drop (length start) bs
starts start bs = (starts_is Decides-eqb bs start (bytes_eq start (take (length start) bs)) refl).0

escaped_url-starts : (start bs : List ℕ) → list_all stays_in_url start ≡ true → bytes_eq start (take (length start) bs) ≡ true → escaped_url bs ≡ start ++ escaped_url (drop (length start) bs)
escaped_url-starts start bs stay test =
    ap escaped_url (starts start bs test)
    ∙ escaped_url-append start (drop (length start) bs)
    ∙ ap (λ x. x ++ escaped_url (drop (length start) bs)) (escaped_url_unchanged start (AllPass-from_list_all stays_in_url start stay))

is_url-http : (rest : List ℕ) → is_url (codes "http://" ++ rest) ≡ true
unfolding is_url
is_url-http rest = refl

is_url-https : (rest : List ℕ) → is_url (codes "https://" ++ rest) ≡ true
unfolding is_url
is_url-https rest = refl

pub is_url-escaped_url : (bs : List ℕ) → is_url bs ≡ true → is_url (escaped_url bs) ≡ true
unfolding is_url
is_url-escaped_url bs url =
    ⊎_elim
    (λ http. ap is_url (escaped_url-starts (codes "http://") bs refl http) ∙ is_url-http (escaped_url (drop 7 bs)))
    (λ https. ap is_url (escaped_url-starts (codes "https://") bs refl https) ∙ is_url-https (escaped_url (drop 8 bs)))
    (or_cases _ _ url)

-- a text without a byte begins no URL
pub is_url-some : (bs : List ℕ) → is_url bs ≡ true → 0 < length bs
unfolding is_url
is_url-some [] url = absurd (false≢true url)
is_url-some (b ∷ bs) url = omega arith

url_is_ascii : (b : ℕ) → stays_in_url b ≡ true → b < 128
url_is_ascii b stays = grind (arith, nat_tests)

url_is_no_return : (b : ℕ) → stays_in_url b ≡ true → (b == carriage_return) ≡ false
url_is_no_return b stays = grind (arith, nat_tests)

pub is_readable-clean : (iri : List ℕ) → IsCleanUrl iri → is_readable iri ≡ true
is_readable-clean iri own =
    is_readable-ascii stays_in_url url_is_ascii url_is_no_return iri (is_url-some iri own.url) own.clean

pub IsCleanUrl-escaped_url : (bs : List ℕ) → is_url bs ≡ true → IsCleanUrl (escaped_url bs)
IsCleanUrl-escaped_url bs url = record {
  url = is_url-escaped_url bs url;
  clean = AllPass-escaped_url stays_in_url (λ b stays. stays) bs;
}

-- ---- texts behind the base

-- a text of bytes that stay in a URL
abbrev pub Stays : List ℕ → Type 0
Stays bs = AllPass stays_in_url bs

stays_append : (xs ys : List ℕ) → Stays xs → Stays ys → Stays (xs ++ ys)
stays_append xs ys = All-append (λ b. stays_in_url b ≡ true) xs ys

stays_base : Stays base
unfolding base
stays_base = AllPass-from_list_all stays_in_url base refl

stays_part : (bs : List ℕ) → Stays (escaped_part bs)
stays_part bs = AllPass-escaped_part stays_in_url refl stays_in_url-part bs

word_stays : (b : ℕ) → is_word_byte b ≡ true → stays_in_url b ≡ true
word_stays = implies_by_table is_word_byte stays_in_url refl (λ b above. grind (arith, nat_tests))

digit_stays : (b : ℕ) → is_ascii_digit b ≡ true → stays_in_url b ≡ true
digit_stays = implies_by_table is_ascii_digit stays_in_url refl (λ b above. grind (arith, nat_tests))

stays_prefix : (bs : List ℕ) → is_prefix bs ≡ true → Stays bs
stays_prefix bs prefix =
    All-weaker (λ b. is_word_byte b ≡ true) (λ b. stays_in_url b ≡ true) word_stays bs (prefix_bytes bs prefix)

stays_number : (bs : List ℕ) → is_number bs ≡ true → Stays bs
stays_number bs number =
    All-weaker (λ b. is_ascii_digit b ≡ true) (λ b. stays_in_url b ≡ true) digit_stays bs (AllPass-from_list_all is_ascii_digit bs (and_parts _ _ number).1)

is_url-base : (first second : List ℕ) → is_url (base ++ first ++ second) ≡ true
unfolding is_url base
is_url-base first second = refl

clean_two : (first second : List ℕ) → Stays first → Stays second → IsCleanUrl (base ++ first ++ second)
clean_two first second one two = record {
  url = is_url-base first second;
  clean = stays_append (base ++ first) second (stays_append base first stays_base one) two;
}

is_url-base_three : (first between second : List ℕ) → is_url (base ++ first ++ between ++ second) ≡ true
unfolding is_url base
is_url-base_three first between second = refl

clean_three : (first between second : List ℕ) → Stays first → Stays between → Stays second → IsCleanUrl (base ++ first ++ between ++ second)
clean_three first between second one two three = record {
  url = is_url-base_three first between second;
  clean = stays_append (base ++ first ++ between) second (clean_two first between one two).clean three;
}

-- ---- the IRIs made here

pub IsCleanUrl-iri_of : (id ontology : List ℕ) → IsCleanUrl (iri_of id ontology)
IsCleanUrl-iri_of id ontology =
    let each : EachForm id ontology IsCleanUrl = record {
      url = IsCleanUrl-escaped_url id;
      canonical = λ parts _ canonical.
          let both = and_parts _ _ canonical in
          clean_three parts.0 (codes "_") parts.1 (stays_prefix parts.0 both.0) (AllPass-from_list_all stays_in_url (codes "_") refl) (stays_number parts.1 both.1);
      prefixed = λ parts _.
          clean_three (escaped_part parts.0) (codes "#_") (escaped_part parts.1) (stays_part parts.0) (AllPass-from_list_all stays_in_url (codes "#_") refl) (stays_part parts.1);
      plain =
          clean_three (escaped_part ontology) (codes "#") (escaped_part id) (stays_part ontology) (AllPass-from_list_all stays_in_url (codes "#") refl) (stays_part id);
    } in
    iri_of-each id ontology IsCleanUrl each

pub ontology_iri-url : (value : List ℕ) → is_url value ≡ true → ontology_iri value ≡ escaped_url value
unfolding ontology_iri
ontology_iri-url value url = cond-true _ _ _ url

pub ontology_iri-short : (value : List ℕ) → is_url value ≡ false → ontology_iri value ≡ short_name_iri value
unfolding ontology_iri
ontology_iri-short value url = cond-false _ _ _ url

pub IsCleanUrl-ontology_iri : (value : List ℕ) → IsCleanUrl (ontology_iri value)
IsCleanUrl-ontology_iri value =
    ⊎_elim
    (λ url. subst IsCleanUrl (sym (ontology_iri-url value url)) (IsCleanUrl-escaped_url value url))
    (λ short. subst IsCleanUrl (sym (ontology_iri-short value short)) (clean_two (escaped_part value) (codes ".owl") (stays_part value) (AllPass-from_list_all stays_in_url (codes ".owl") refl)))
    (cases_Bool (is_url value))

-- ---- what stays in a URL may stand in an IRI

stays_is_iri_byte : (b : ℕ) → stays_in_url b ≡ true → is_iri_byte b ≡ true
stays_is_iri_byte = implies_by_table stays_in_url is_iri_byte refl stays_in_url-high

pub is_clean_iri-url : (iri : List ℕ) → IsCleanUrl iri → is_clean_iri iri ≡ true
unfolding is_clean_iri
is_clean_iri-url iri is =
    list_all-from_AllPass is_iri_byte iri (All-weaker (λ b. stays_in_url b ≡ true) (λ b. is_iri_byte b ≡ true) stays_is_iri_byte iri is.clean)
