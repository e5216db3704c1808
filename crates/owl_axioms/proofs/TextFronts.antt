-- Where a text of a known kind ends in a longer text: the same longer text begins with one text of that kind only.
use Rattle.std.proofs.Common.{◌≡◌, ◌⊎◌, ◌<◌, ◌≤◌, ◌^◌, ℕ, Bool, true, false, ◌||◌, ◌==◌, List, [], ◌∷◌, ◌++◌, codes, flat_map, inl, inr, ⊎_elim, refl, sym, ap, subst, ◌∙◌, arith, append_assoc}
use Rattle.std.specs.Fmt.{decimal}
use Rattle.std.specs.List.{join_with_byte, list_all}
use Rattle.std.specs.Prelude.{nat_lt}
use Rattle.std.specs.Str.Parse.{AllDigits}
use Rattle.std.proofs.lemmas.Bool.{and_from, and_parts, both_ways, cases_Bool, cond-false, cond-true, or_parts}
use Rattle.std.proofs.lemmas.Bool.Decides.{nat_tests}
use Rattle.std.proofs.lemmas.Fmt.{decimal_injective, decimal_is_IsNumeral}
use Rattle.std.proofs.lemmas.List.{append_cancel_left}
use Rattle.std.proofs.lemmas.Str.Parse.{digit_from_value}
use Rattle.rel_io.specs.Texts.{is_clean_iri, is_iri_byte}
use Rattle.owl_axioms.specs.Proper.{is_count}
use Rattle.owl_axioms.specs.Text.{escaped, iri_text, phrase, quoted}

-- the same at the front, and the same behind it
pub record Ends {A : Type 0} (one other : A) (rest more : List ℕ) : Type 0 where
  pub same : one ≡ other
  pub rest_same : rest ≡ more

pub cons_parts : (a b : ℕ) (x y : List ℕ) → a ∷ x ≡ b ∷ y → (a ≡ b) × (x ≡ y)
cons_parts a b x y same = (cc, cc)

pub append_parts : (front x y : List ℕ) → front ++ x ≡ front ++ y → x ≡ y
append_parts front x y same = append_cancel_left front x y same

-- the first byte
unfoldable pub head_of : List ℕ → ℕ
head_of [] = 0
head_of (b ∷ bs) = b

-- ---- texts that end at a byte that they do not have

no_stop : (test : ℕ → Bool) (stop b : ℕ) → test stop ≡ false → test b ≡ true → b ≡ stop → ⊥
no_stop test stop b is passes same = let h : false ≡ true = sym is ∙ ap test (sym same) ∙ passes in absurd (cc)

stop_front : (test : ℕ → Bool) (stop : ℕ) → test stop ≡ false → (p q x y : List ℕ) → list_all test p ≡ true → list_all test q ≡ true → p ++ stop ∷ x ≡ q ++ stop ∷ y → Ends p q x y
stop_front test stop is [] [] x y one other same = record { same = refl; rest_same = (cons_parts stop stop x y same).1 }
stop_front test stop is [] (b ∷ q) x y one other same = absurd (no_stop test stop b is (and_parts (test b) (list_all test q) other).0 (sym (cons_parts stop b x (q ++ stop ∷ y) same).0))
stop_front test stop is (a ∷ p) [] x y one other same = absurd (no_stop test stop a is (and_parts (test a) (list_all test p) one).0 (cons_parts a stop (p ++ stop ∷ x) y same).0)
stop_front test stop is (a ∷ p) (b ∷ q) x y one other same =
    let parts = cons_parts a b (p ++ stop ∷ x) (q ++ stop ∷ y) same in
    let ends = stop_front test stop is p q x y (and_parts (test a) (list_all test p) one).1 (and_parts (test b) (list_all test q) other).1 parts.1 in
    record { same = λ i. parts.0 i ∷ ends.same i; rest_same = ends.rest_same }

-- ---- IRIs

pub iri_front : (p q x y : List ℕ) → is_clean_iri p ≡ true → is_clean_iri q ≡ true → iri_text p ++ x ≡ iri_text q ++ y → Ends p q x y
unfolding iri_text is_clean_iri
iri_front p q x y one other same =
    let a = append_assoc p (62 ∷ []) x in
    let b = append_assoc q (62 ∷ []) y in
    stop_front is_iri_byte 62 refl p q x y one other (sym a ∙ (cons_parts 60 60 ((p ++ 62 ∷ []) ++ x) ((q ++ 62 ∷ []) ++ y) same).1 ∙ b)

pub iri_head : (p x : List ℕ) → head_of (iri_text p ++ x) ≡ 60
unfolding iri_text head_of
iri_head p x = refl

-- ---- numbers

is_above_space : ℕ → Bool
is_above_space b = nat_lt 32 b

space_stops : is_above_space 32 ≡ false
unfolding is_above_space
space_stops = refl

digits_above : (ds : List ℕ) → AllDigits 10 ds → list_all is_above_space ds ≡ true
unfolding is_above_space
digits_above [] all = refl
digits_above (d ∷ ds) all =
    let range = digit_from_value d all.0 in
    and_from (is_above_space d) (list_all is_above_space ds) (above range.0) (digits_above ds all.1)
  where
    above : 48 ≤ d → nat_lt 32 d ≡ true
    above low = grind (arith, nat_tests, low)

count_small : (n : ℕ) → is_count n ≡ true → n < 2 ^ 64
unfolding is_count
count_small n is = let small : nat_lt n (2 ^ 32) ≡ true = is in grind (arith, nat_tests, small)

pub number_front : (m n : ℕ) (x y : List ℕ) → is_count m ≡ true → is_count n ≡ true → decimal m ++ 32 ∷ x ≡ decimal n ++ 32 ∷ y → Ends m n x y
number_front m n x y one other same =
    let low = count_small m one in
    let small = count_small n other in
    let ends = stop_front is_above_space 32 space_stops (decimal m) (decimal n) x y (digits_above (decimal m) (decimal_is_IsNumeral m low).0.1) (digits_above (decimal n) (decimal_is_IsNumeral n small).0.1) same in
    record { same = decimal_injective m n low small ends.same; rest_same = ends.rest_same }

-- ---- texts in quotes

abbrev is_special : ℕ → Bool
is_special b = b == 34 || b == 92

no_quote : (b : ℕ) → is_special b ≡ false → (b ≡ 34 → ⊥) × (b ≡ 92 → ⊥)
no_quote b plain =
    let parts = or_parts (b == 34) (b == 92) plain in
    ((λ is. both_ways (b == 34) parts.0 (subst (λ c. (c == 34) ≡ true) (sym is) refl)), (λ is. both_ways (b == 92) parts.1 (subst (λ c. (c == 92) ≡ true) (sym is) refl)))

byte_and : (b : ℕ) (more : List ℕ) → (is_special b ≡ true) ⊎ (is_special b ≡ false) → (escaped b ++ more ≡ 92 ∷ b ∷ more) ⊎ ((escaped b ++ more ≡ b ∷ more) × (is_special b ≡ false))
byte_and b more (inl is) = inl (ap (λ s. s ++ more) (cond-true (is_special b) (92 ∷ b ∷ []) (b ∷ []) is))
byte_and b more (inr is) = inr (ap (λ s. s ++ more) (cond-false (is_special b) (92 ∷ b ∷ []) (b ∷ []) is), is)

step : (t : List ℕ) (b : ℕ) (x : List ℕ) → flat_map escaped (b ∷ t) ++ 34 ∷ x ≡ escaped b ++ (flat_map escaped t ++ 34 ∷ x)
step t b x = append_assoc (escaped b) (flat_map escaped t) (34 ∷ x)

escaped_front : (t u x y : List ℕ) → flat_map escaped t ++ 34 ∷ x ≡ flat_map escaped u ++ 34 ∷ y → Ends t u x y
escaped_front [] [] x y same = record { same = refl; rest_same = (cons_parts 34 34 x y same).1 }
escaped_front [] (b ∷ u) x y same =
    let more = flat_map escaped u ++ 34 ∷ y in
    let all = same ∙ step u b y in
    ⊎_elim
    (λ special. let h : 34 ≡ 92 = (cons_parts 34 92 x (b ∷ more) (all ∙ special)).0 in absurd (omega (arith, h)))
    (λ plain. absurd ((no_quote b plain.1).0 (sym (cons_parts 34 b x more (all ∙ plain.0)).0)))
    (byte_and b more (cases_Bool (is_special b)))
escaped_front (a ∷ t) [] x y same =
    let more = flat_map escaped t ++ 34 ∷ x in
    let all = sym (step t a x) ∙ same in
    ⊎_elim
    (λ special. let h : 92 ≡ 34 = (cons_parts 92 34 (a ∷ more) y (sym special ∙ all)).0 in absurd (omega (arith, h)))
    (λ plain. absurd ((no_quote a plain.1).0 (cons_parts a 34 more y (sym plain.0 ∙ all)).0))
    (byte_and a more (cases_Bool (is_special a)))
escaped_front (a ∷ t) (b ∷ u) x y same =
    let one = flat_map escaped t ++ 34 ∷ x in
    let two = flat_map escaped u ++ 34 ∷ y in
    let all = sym (step t a x) ∙ same ∙ step u b y in
    let both = λ (first : a ≡ b) (rest : one ≡ two). let ends = escaped_front t u x y rest in
    let made : Ends (a ∷ t) (b ∷ u) x y = record { same = λ i. first i ∷ ends.same i; rest_same = ends.rest_same } in made in
    ⊎_elim
    (λ special. ⊎_elim
    (λ also. let tails = (cons_parts 92 92 (a ∷ one) (b ∷ two) (sym special ∙ all ∙ also)).1 in let inner = cons_parts a b one two tails in both inner.0 inner.1)
    (λ plain. absurd ((no_quote b plain.1).1 (sym (cons_parts 92 b (a ∷ one) two (sym special ∙ all ∙ plain.0)).0)))
    (byte_and b two (cases_Bool (is_special b))))
    (λ plain. ⊎_elim
    (λ special. absurd ((no_quote a plain.1).1 (cons_parts a 92 one (b ∷ two) (sym plain.0 ∙ all ∙ special)).0))
    (λ also. let inner = cons_parts a b one two (sym plain.0 ∙ all ∙ also.0) in both inner.0 inner.1)
    (byte_and b two (cases_Bool (is_special b))))
    (byte_and a one (cases_Bool (is_special a)))

pub quoted_front : (t u x y : List ℕ) → quoted t ++ x ≡ quoted u ++ y → Ends t u x y
unfolding quoted
quoted_front t u x y same =
    let a = append_assoc (flat_map escaped t) (34 ∷ []) x in
    let b = append_assoc (flat_map escaped u) (34 ∷ []) y in
    escaped_front t u x y (sym a ∙ (cons_parts 34 34 ((flat_map escaped t ++ 34 ∷ []) ++ x) ((flat_map escaped u ++ 34 ∷ []) ++ y) same).1 ∙ b)

pub quoted_head : (t x : List ℕ) → head_of (quoted t ++ x) ≡ 34
unfolding quoted head_of
quoted_head t x = refl

-- ---- phrases

-- each part behind a space, and the closing bracket
abbrev pub tails : List (List ℕ) → List ℕ
tails [] = codes ")"
tails (part ∷ parts) = 32 ∷ (part ++ tails parts)

join_tails : (part : List ℕ) (parts : List (List ℕ)) → join_with_byte 32 (part ∷ parts) ++ codes ")" ≡ part ++ tails parts
join_tails part [] = refl
join_tails part (next ∷ parts) =
    append_assoc part (32 ∷ join_with_byte 32 (next ∷ parts)) (codes ")") ∙ ap (λ t. part ++ 32 ∷ t) (join_tails next parts)

-- a phrase and what stands behind it
pub phrase_front : (word part : List ℕ) (parts : List (List ℕ)) (x : List ℕ) → phrase word (part ∷ parts) ++ x ≡ word ++ 40 ∷ (part ++ (tails parts ++ x))
unfolding phrase
phrase_front word part parts x =
    let inner = join_with_byte 32 (part ∷ parts) in
    ap (λ t. t ++ x) (append_assoc (word ++ codes "(") inner (codes ")") ∙ ap (λ t. (word ++ codes "(") ++ t) (join_tails part parts))
    ∙ append_assoc (word ++ codes "(") (part ++ tails parts) x
    ∙ append_assoc word (codes "(") ((part ++ tails parts) ++ x)
    ∙ ap (λ t. word ++ 40 ∷ t) (append_assoc part (tails parts) x)
