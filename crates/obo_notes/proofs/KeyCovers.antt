-- The property of each key has a key, and each qualifier is one again.
use Rattle.std.proofs.Common.{◌≡◌, ◌<◌, ◌⊎◌, ℕ, Bool, true, false, not, ◌&&◌, ◌==◌, List, [], ◌∷◌, ◌++◌, codes, length, All, Option, None, Some, inl, inr, cond, ⊎_elim, refl, sym, subst, ◌∙◌, arith}
use Rattle.std.specs.Prelude.{nat_lt}
use Rattle.std.specs.List.{AllPass, list_all, list_any}
use Rattle.std.specs.Option.{IsSome, option_and_then, option_map, option_or}
use Rattle.std.specs.Str.{bytes_eq, is_utf8}
use Rattle.std.proofs.lemmas.Bool.{and_from, and_parts, both_ways, cases_Bool, cond-false, cond-true, cond_both, false_from_ne_true, ltb-true, not_from_false, or_cases}
use Rattle.std.proofs.lemmas.Bool.Decides.{nat_tests}
use Rattle.std.proofs.lemmas.List.Elements.{All-append, All-cons, All-head, All-nil, All-tail, All-weaker}
use Rattle.std.proofs.lemmas.List.Sums.{AllPass-from_list_all, list_all-from_AllPass}
use Rattle.std.proofs.lemmas.Str.{IsUtf8-from_ascii, is_utf8-from_IsUtf8}
use Rattle.std.proofs.lemmas.Str.Ascii.{IsAscii-from_all}
use Rattle.percent_encoding.specs.Percent.{percent_decode, percent_encode_byte}
use Rattle.percent_encoding.proofs.PercentLemmas.{IsEscapeByte, All-percent_encode_byte}
use Rattle.rel_io.specs.Texts.{IsText, is_readable, is_return}
use Rattle.iri_map.specs.Escape.{escaped, escaped_part, escaped_url, stays_in_part, stays_in_url}
use Rattle.iri_map.specs.Id.{is_url}
use Rattle.iri_map.specs.Split.{after_start}
use Rattle.iri_map.proofs.CandidateLemmas.{after_start-append, bytes_eq-refl}
use Rattle.iri_map.proofs.EscapeLemmas.{escaped_url-escaped_url, implies_by_table, percent_decode-escaped_part, stays_in_part-high}
use Rattle.iri_map.proofs.ReadableLemmas.{All-IsUtf8}
use Rattle.iri_map.proofs.UrlLemmas.{IsCleanUrl-escaped_url, is_readable-clean, is_url-escaped_url}
use Rattle.obo_clause.specs.Marks.{bare}
use Rattle.obo_clause.specs.Vocabulary.{is_key_mark}
use Rattle.obo_clause.specs.declared.clause.Qualifier.{Qualifier}
use Rattle.obo_clause.specs.Fits.{FitsQualifier}
use Rattle.obo_notes.specs.Context.{is_text, where_true}
use Rattle.obo_notes.specs.Keys.{gives, is_key, is_reserved_key, key_if, key_of, key_property, plain_text, qualifier_of, side_of_qualifier}
use Rattle.obo_notes.specs.Vocabulary.{obo_in_owl}
use Rattle.obo_notes.proofs.Guards.{same_bytes}

abbrev pub is_key_byte : ℕ → Bool
is_key_byte b = is_key_mark (bare b)

-- ---- escapes keep what a key may have

escape_stays : (b : ℕ) → IsEscapeByte b → (b ≡ 37) ⊎ (stays_in_part b ≡ true)
escape_stays b (inl percent) = inl percent
escape_stays b (inr (inl digit)) = inr (grind (arith, nat_tests))
escape_stays b (inr (inr letter)) = inr (grind (arith, nat_tests))

part_byte_is_key : (b : ℕ) → stays_in_part b ≡ true → is_key_byte b ≡ true
part_byte_is_key = implies_by_table stays_in_part is_key_byte refl stays_in_part-high

escape_is_key : (b : ℕ) → AllPass is_key_byte (percent_encode_byte b)
escape_is_key b =
    All-weaker IsEscapeByte (λ c. is_key_byte c ≡ true)
    (λ c is. ⊎_elim (λ percent. subst (λ d. is_key_byte d ≡ true) (sym percent) refl) (part_byte_is_key c) (escape_stays c is))
    (percent_encode_byte b) (All-percent_encode_byte b)

escaped_is_key : (stays : ℕ → Bool) (bs : List ℕ) → AllPass is_key_byte bs → AllPass is_key_byte (escaped stays bs)
escaped_is_key stays [] all = All-nil (λ c. is_key_byte c ≡ true)
escaped_is_key stays (b ∷ bs) all =
    let P : ℕ → Type 0 = λ c. is_key_byte c ≡ true in
    All-append P (cond (stays b) (b ∷ []) (percent_encode_byte b)) (escaped stays bs)
    (cond_both (stays b) (b ∷ []) (percent_encode_byte b) (All P) (λ _. All-cons P b [] (All-head P b bs all) (All-nil P)) (λ _. escape_is_key b))
    (escaped_is_key stays bs (All-tail P b bs all))

-- ---- keys

record KeyParts (key : List ℕ) : Type 0 where
  some : not (length key == 0) ≡ true
  each : list_all is_key_byte key ≡ true
  utf8 : is_utf8 key ≡ true

key_parts : (key : List ℕ) → is_key key ≡ true → KeyParts key
unfolding is_key
key_parts key is =
    let first = and_parts _ _ is in
    let second = and_parts _ _ first.0 in
    record { some = second.0; each = second.1; utf8 = first.1 }

is_key-from : (key : List ℕ) → not (length key == 0) ≡ true → list_all is_key_byte key ≡ true → is_utf8 key ≡ true → is_key key ≡ true
unfolding is_key
is_key-from key some each utf8 = and_from _ _ (and_from _ _ some each) utf8

readable_parts : (text : List ℕ) → is_readable text ≡ true → (not (length text == 0) ≡ true) × (is_utf8 text ≡ true)
unfolding is_readable
readable_parts text is = let first = and_parts _ _ is in let second = and_parts _ _ first.0 in (second.0, second.1)

url_key_is_key : (key : List ℕ) → is_key key ≡ true → is_url key ≡ true → is_key (escaped_url key) ≡ true
unfolding escaped_url
url_key_is_key key is url =
    let parts = key_parts key is in
    let readable = readable_parts (escaped_url key) (is_readable-clean (escaped_url key) (IsCleanUrl-escaped_url key url)) in
    let each = escaped_is_key stays_in_url key (AllPass-from_list_all is_key_byte key parts.each) in
    is_key-from (escaped_url key) readable.0 (list_all-from_AllPass is_key_byte (escaped stays_in_url key) each) readable.1

six_is_no_url : (key : List ℕ) → is_reserved_key key ≡ true → is_url key ≡ false
unfolding is_reserved_key is_url
six_is_no_url key six =
    let one = λ (name : List ℕ) (no_url : is_url name ≡ false) (same : bytes_eq name key ≡ true). subst (λ k. is_url k ≡ false) (same_bytes name key same) no_url in
    ⊎_elim (one (codes "all_only") refl) (λ more. ⊎_elim (one (codes "cardinality") refl) (λ more. ⊎_elim (one (codes "minCardinality") refl) (λ more. ⊎_elim (one (codes "maxCardinality") refl) (λ more. ⊎_elim (one (codes "gci_relation") refl) (λ more. ⊎_elim (one (codes "gci_filler") refl) (λ none. let h : false ≡ true = none in absurd (cc)) (or_cases _ _ more)) (or_cases _ _ more)) (or_cases _ _ more)) (or_cases _ _ more)) (or_cases _ _ more)) (or_cases _ _ six)

url_is_no_reserved : (key : List ℕ) → is_url key ≡ true → is_reserved_key key ≡ false
url_is_no_reserved key url = false_from_ne_true (is_reserved_key key) (λ six. both_ways (is_url key) (six_is_no_url key six) url)

pub key_property-url : (key : List ℕ) → is_url key ≡ true → key_property key ≡ escaped_url key
unfolding key_property
key_property-url key url = cond-true _ _ _ url

pub key_property-own : (key : List ℕ) → is_url key ≡ false → key_property key ≡ obo_in_owl ++ escaped_part key
unfolding key_property
key_property-own key other = cond-false _ _ _ other

key_if-some : (property key : List ℕ) → is_key key ≡ true → is_reserved_key key ≡ false → key_property key ≡ property → IsSome (key_if property key)
key_if-some property key is plain same =
    let test : gives property key ≡ true = and_from _ _ (and_from _ _ is (not_from_false _ plain)) (subst (λ p. bytes_eq (key_property key) p ≡ true) same (bytes_eq-refl (key_property key))) in
    subst (λ b. IsSome (where_true b (Some key))) (sym test) refl

or_first : {X : Type 0} (o other : Option X) → IsSome o → IsSome (option_or o other)
or_first None other some = let h : false ≡ true = some in absurd (cc)
or_first (Some x) other some = refl

or_second : {X : Type 0} (o other : Option X) → IsSome other → IsSome (option_or o other)
or_second None other some = some
or_second (Some x) other some = refl

own_covered : (key : List ℕ) → is_key key ≡ true → is_reserved_key key ≡ false → is_url key ≡ false → IsSome (key_of (obo_in_owl ++ escaped_part key))
unfolding key_of
own_covered key is plain other =
    let property = obo_in_owl ++ escaped_part key in
    let parts = key_parts key is in
    let decoded = percent_decode-escaped_part key (All-IsUtf8 key (Rattle.std.proofs.lemmas.Str.IsUtf8-from_is_utf8 key parts.utf8)) in
    let found = subst (λ k. IsSome (key_if property k)) (sym decoded) (key_if-some property key is plain (key_property-own key other)) in
    or_first (option_and_then (λ rest. key_if property (percent_decode rest)) (after_start obo_in_owl property)) (key_if property property)
    (subst (λ o. IsSome (option_and_then (λ rest. key_if property (percent_decode rest)) o)) (sym (after_start-append obo_in_owl (escaped_part key))) found)

url_covered : (key : List ℕ) → is_key key ≡ true → is_url key ≡ true → IsSome (key_of (escaped_url key))
unfolding key_of
url_covered key is url =
    let property = escaped_url key in
    let also = is_url-escaped_url key url in
    or_second (option_and_then (λ rest. key_if property (percent_decode rest)) (after_start obo_in_owl property)) (key_if property property)
    (key_if-some property property (url_key_is_key key is url) (url_is_no_reserved property also) (key_property-url property also ∙ escaped_url-escaped_url key))

pub key_covered : (key : List ℕ) → is_key key ≡ true → is_reserved_key key ≡ false → IsSome (key_of (key_property key))
key_covered key is plain =
    ⊎_elim
    (λ url. subst (λ p. IsSome (key_of p)) (sym (key_property-url key url)) (url_covered key is url))
    (λ other. subst (λ p. IsSome (key_of p)) (sym (key_property-own key other)) (own_covered key is plain other))
    (cases_Bool (is_url key))

-- ---- qualifiers

pub test_from_IsText : (text : List ℕ) → IsText text → is_text text ≡ true
unfolding is_text
test_from_IsText text is = and_from _ _ (is_utf8-from_IsUtf8 text is.utf8) (not_from_false _ is.no_return)

pub is_key-from_fits : (qualifier : Qualifier) → FitsQualifier qualifier → is_key qualifier.key ≡ true
is_key-from_fits qualifier fits =
    let some : 0 < length qualifier.key = fits.some in
    is_key-from qualifier.key (grind (arith, nat_tests, some)) (list_all-from_AllPass is_key_byte qualifier.key fits.each) (is_utf8-from_IsUtf8 qualifier.key fits.utf8)

some_value : {X : Type 0} (o : Option X) → IsSome o → (x : X) × (o ≡ Some x)
some_value None some = let h : false ≡ true = some in absurd (cc)
some_value (Some x) some = (x, refl)

pub qualifier_covered : (qualifier : Qualifier) → FitsQualifier qualifier → is_reserved_key qualifier.key ≡ false → IsSome (qualifier_of (side_of_qualifier qualifier))
unfolding qualifier_of
qualifier_covered qualifier fits plain =
    let key = some_value (key_of (key_property qualifier.key)) (key_covered qualifier.key (is_key-from_fits qualifier fits) plain) in
    let text = test_from_IsText qualifier.value fits.value in
    let side = side_of_qualifier qualifier in
    let make = λ (k : List ℕ). option_map (λ (t : List ℕ). let q : Qualifier = record { key = k; value = t } in q) (plain_text side) in
    subst (λ o. IsSome (option_and_then make o)) (sym key.1)
    (subst (λ b. IsSome (option_map (λ (t : List ℕ). let q : Qualifier = record { key = key.0; value = t } in q) (where_true b (Some qualifier.value)))) (sym text) refl)

-- ---- keys that are constants

abbrev is_low_key_byte : ℕ → Bool
is_low_key_byte b = is_key_byte b && nat_lt b 128

low : (b : ℕ) → is_low_key_byte b ≡ true → b < 128
low b is = ltb-true b 128 (and_parts (is_key_byte b) (nat_lt b 128) is).1

pub constant_key : (key : List ℕ) → not (length key == 0) ≡ true → list_all is_low_key_byte key ≡ true → is_key key ≡ true
constant_key key some all =
    let each = AllPass-from_list_all is_low_key_byte key all in
    let keys = All-weaker (λ b. is_low_key_byte b ≡ true) (λ b. is_key_byte b ≡ true) (λ b is. (and_parts (is_key_byte b) (nat_lt b 128) is).0) key each in
    is_key-from key some (list_all-from_AllPass is_key_byte key keys)
    (is_utf8-from_IsUtf8 key (IsUtf8-from_ascii key (IsAscii-from_all key (All-weaker (λ b. is_low_key_byte b ≡ true) (λ b. b < 128) low key each))))

pub constant_text : (key : List ℕ) → not (length key == 0) ≡ true → list_all is_low_key_byte key ≡ true → list_any is_return key ≡ false → IsText key
constant_text key some all no_return = record { utf8 = Rattle.std.proofs.lemmas.Str.IsUtf8-from_is_utf8 key (key_parts key (constant_key key some all)).utf8; no_return = no_return }
