-- The escapes of `specs/` are those of the crate `percent_encoding`, by one table of the ASCII bytes for each set.
use Rattle.std.proofs.Common.{◌≡◌, ℕ, ◌≤◌, Bool, true, false, cond, not, ◌&&◌, ◌⊎◌, List, [], ◌∷◌, ◌++◌, All, refl, sym, ap, subst, ◌∙◌, inl, inr, ⊎_elim, arith, le-ltb}
use Rattle.std.specs.List.{AllPass}
use Rattle.std.proofs.lemmas.Bool.{agree_below, agree_below_at, and_cases, both_ways, cases_lt, not-false, not_from_true}
use Rattle.std.proofs.lemmas.Bool.Decides.{nat_tests}
use Rattle.std.proofs.lemmas.Grind.{flat_map-append}
use Rattle.std.proofs.lemmas.List.Elements.{All-weaker}
use Rattle.percent_encoding.specs.declared.ascii_set.AsciiSet.{AsciiSet}
use Rattle.percent_encoding.specs.AsciiSet.{should_percent_encode}
use Rattle.percent_encoding.specs.Percent.{IsKept, percent_decode, percent_encode, percent_encode_byte}
use Rattle.percent_encoding.proofs.PercentLemmas.{IsByte, IsEscapeByte, All-percent_encode, percent_encode_unchanged, round_trip}
use Rattle.iri_map.specs.declared.escape.TheConstants.{PART, URL}
use Rattle.iri_map.specs.Escape.{stays_in_part, stays_in_url, escaped, escaped_part, escaped_url}

-- the set escapes exactly the bytes that do not stay
abbrev pub IsSetOf : AsciiSet → (ℕ → Bool) → Type 0
IsSetOf set stays = (b : ℕ) → should_percent_encode set b ≡ not (stays b)

by_table : (set : AsciiSet) (stays : ℕ → Bool) → agree_below (should_percent_encode set) (λ b. not (stays b)) 128 ≡ true → ((b : ℕ) → 128 ≤ b → stays b ≡ false) → IsSetOf set stays
unfolding should_percent_encode
by_table set stays table high b =
    elim (cases_lt b 128) [
      | inl low ↦ agree_below_at (should_percent_encode set) (λ n. not (stays n)) 128 b table low
      | inr above ↦ rw (le-ltb b 128 above, high b above) refl
    ]

pub IsSetOf-PART : IsSetOf PART stays_in_part
unfolding should_percent_encode
IsSetOf-PART = by_table PART stays_in_part refl (λ b above. grind (arith, nat_tests))

pub IsSetOf-URL : IsSetOf URL stays_in_url
unfolding should_percent_encode
IsSetOf-URL = by_table URL stays_in_url refl (λ b above. grind (arith, nat_tests))

cond-not : (b : Bool) (x y : List ℕ) → cond (not b) x y ≡ cond b y x
cond-not true x y = refl
cond-not false x y = refl

pub percent_encode-escaped : (set : AsciiSet) (stays : ℕ → Bool) → IsSetOf set stays → (bs : List ℕ) → percent_encode set bs ≡ escaped stays bs
unfolding percent_encode
percent_encode-escaped set stays is [] = refl
percent_encode-escaped set stays is (b ∷ bs) =
    let first = ap (λ (t : Bool). cond t (percent_encode_byte b) (b ∷ [])) (is b) ∙ cond-not (stays b) (percent_encode_byte b) (b ∷ []) in
    rw (first, percent_encode-escaped set stays is bs) refl

pub percent_encode-PART : (bs : List ℕ) → percent_encode PART bs ≡ escaped_part bs
unfolding escaped_part
percent_encode-PART = percent_encode-escaped PART stays_in_part IsSetOf-PART

pub percent_encode-URL : (bs : List ℕ) → percent_encode URL bs ≡ escaped_url bs
unfolding escaped_url
percent_encode-URL = percent_encode-escaped URL stays_in_url IsSetOf-URL

-- ---- the bytes of an escaped text

-- where a byte that passes one test passes another, as a table of the ASCII bytes shows
pub implies_by_table : (p q : ℕ → Bool) → agree_below (λ b. p b && not (q b)) (λ b. false) 128 ≡ true → ((b : ℕ) → 128 ≤ b → p b ≡ false) → (b : ℕ) → p b ≡ true → q b ≡ true
implies_by_table p q table high b passes =
    elim (cases_lt b 128) [
      | inl low ↦ ⊎_elim (λ fails. absurd (both_ways _ fails passes)) (not-false (q b)) (and_cases (p b) (not (q b)) (agree_below_at (λ n. p n && not (q n)) (λ n. false) 128 b table low))
      | inr above ↦ absurd (both_ways _ (high b above) passes)
    ]

pub stays_in_part-high : (b : ℕ) → 128 ≤ b → stays_in_part b ≡ false
stays_in_part-high b above = grind (arith, nat_tests)

pub stays_in_url-high : (b : ℕ) → 128 ≤ b → stays_in_url b ≡ false
stays_in_url-high b above = grind (arith, nat_tests)

-- an escape is `%` and two bytes that stay
escape_byte_stays : (b : ℕ) → IsEscapeByte b → (b ≡ 37) ⊎ (stays_in_part b ≡ true)
escape_byte_stays b (inl percent) = inl percent
escape_byte_stays b (inr (inl digit)) = inr (grind (arith, nat_tests))
escape_byte_stays b (inr (inr letter)) = inr (grind (arith, nat_tests))

AllPass-percent_encode : (set : AsciiSet) (stays : ℕ → Bool) → IsSetOf set stays → (p : ℕ → Bool) → p 37 ≡ true → ((b : ℕ) → stays_in_part b ≡ true → p b ≡ true) → ((b : ℕ) → stays b ≡ true → p b ≡ true) → (bs : List ℕ) → AllPass p (percent_encode set bs)
AllPass-percent_encode set stays is p percent part own bs =
    All-percent_encode (λ b. p b ≡ true) set bs
    (λ b kept. own b (not-false _ (sym (is b) ∙ kept)))
    (λ b escape. ⊎_elim (λ e. rw e percent) (part b) (escape_byte_stays b escape))

-- a test that `%` and each byte that stays pass is passed by each byte of a part
pub AllPass-escaped_part : (p : ℕ → Bool) → p 37 ≡ true → ((b : ℕ) → stays_in_part b ≡ true → p b ≡ true) → (bs : List ℕ) → AllPass p (escaped_part bs)
AllPass-escaped_part p percent part bs =
    subst (AllPass p) (percent_encode-PART bs) (AllPass-percent_encode PART stays_in_part IsSetOf-PART p percent part part bs)

pub stays_in_url-part : (b : ℕ) → stays_in_part b ≡ true → stays_in_url b ≡ true
stays_in_url-part = implies_by_table stays_in_part stays_in_url refl stays_in_part-high

-- the same of a URL
pub AllPass-escaped_url : (p : ℕ → Bool) → ((b : ℕ) → stays_in_url b ≡ true → p b ≡ true) → (bs : List ℕ) → AllPass p (escaped_url bs)
AllPass-escaped_url p url bs =
    subst (AllPass p) (percent_encode-URL bs) (AllPass-percent_encode URL stays_in_url IsSetOf-URL p (url 37 refl) (λ b part. url b (stays_in_url-part b part)) url bs)

-- ---- escapes once more, and read back

pub escaped_url_unchanged : (bs : List ℕ) → AllPass stays_in_url bs → escaped_url bs ≡ bs
escaped_url_unchanged bs stay =
    sym (percent_encode-URL bs)
    ∙ percent_encode_unchanged URL bs (All-weaker (λ b. stays_in_url b ≡ true) (IsKept URL) (λ b stays. IsSetOf-URL b ∙ not_from_true _ stays) bs stay)

pub escaped_url-escaped_url : (bs : List ℕ) → escaped_url (escaped_url bs) ≡ escaped_url bs
escaped_url-escaped_url bs = escaped_url_unchanged (escaped_url bs) (AllPass-escaped_url stays_in_url (λ b stays. stays) bs)

pub escaped_url-append : (xs ys : List ℕ) → escaped_url (xs ++ ys) ≡ escaped_url xs ++ escaped_url ys
unfolding escaped_url
escaped_url-append xs ys = flat_map-append (λ b. cond (stays_in_url b) (b ∷ []) (percent_encode_byte b)) xs ys

pub percent_decode-escaped_part : (bs : List ℕ) → All IsByte bs → percent_decode (escaped_part bs) ≡ bs
percent_decode-escaped_part bs small = ap percent_decode (sym (percent_encode-PART bs)) ∙ round_trip PART bs refl small
