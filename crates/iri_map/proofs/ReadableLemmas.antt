-- What a readable text is, and that IRIs are readable.
use Rattle.std.proofs.Common.{◌≡◌, ℕ, ◌+◌, ◌/◌, ◌%◌, ◌<◌, Bool, true, false, not, ◌==◌, List, [], ◌∷◌, length, All, ltb, refl, subst, ⊎_elim, arith}
use Rattle.std.specs.List.{AllPass}
use Rattle.std.specs.Str.{IsUtf8}
use Rattle.std.proofs.Math.Utf8.{scalar, scalar_cases, scalars, encode, encodes}
use Rattle.std.proofs.lemmas.Bool.{and_from, and_parts, cond_both, ltb-true, not_from_false, or_from}
use Rattle.std.proofs.lemmas.Bool.Decides.{nat_tests}
use Rattle.std.proofs.lemmas.List.Elements.{All-append, All-cons, All-head, All-nil, All-tail, All-weaker}
use Rattle.std.proofs.lemmas.Str.{IsUtf8-from_ascii, IsUtf8-from_is_utf8, is_utf8-from_IsUtf8}
use Rattle.std.proofs.lemmas.Str.Ascii.{IsAscii-from_all}
use Rattle.percent_encoding.proofs.PercentLemmas.{IsByte}
use Rattle.rel_io.specs.Texts.{carriage_return, holds_byte, is_readable}

-- ---- the bytes of UTF-8

-- one to four bytes
one_byte : (a : ℕ) → IsByte a → All IsByte (a ∷ [])
one_byte a first = All-cons IsByte a [] first (All-nil IsByte)

two_bytes : (a b : ℕ) → IsByte a → IsByte b → All IsByte (a ∷ b ∷ [])
two_bytes a b first second = All-cons IsByte a (b ∷ []) first (one_byte b second)

three_bytes : (a b c : ℕ) → IsByte a → IsByte b → IsByte c → All IsByte (a ∷ b ∷ c ∷ [])
three_bytes a b c first second third = All-cons IsByte a (b ∷ c ∷ []) first (two_bytes b c second third)

four_bytes : (a b c d : ℕ) → IsByte a → IsByte b → IsByte c → IsByte d → All IsByte (a ∷ b ∷ c ∷ d ∷ [])
four_bytes a b c d first second third fourth =
    All-cons IsByte a (b ∷ c ∷ d ∷ []) first (three_bytes b c d second third fourth)

-- a byte of a character that goes on with it
next_byte : (n : ℕ) → IsByte (128 + n % 64)
next_byte n = omega arith

All-encode : (c : ℕ) → scalar c ≡ true → All IsByte (encode c)
unfolding encode
All-encode c valid =
    let high : c < 1114112 = ⊎_elim (λ low. omega arith) (λ above. above.1) (scalar_cases c valid) in
    cond_both (ltb c 128) _ _ (All IsByte)
    (λ low. one_byte c (omega (arith, ltb-true c 128 low)))
    (λ _. cond_both (ltb c 2048) _ _ (All IsByte)
    (λ low. two_bytes (192 + c / 64) (128 + c % 64) (omega (arith, ltb-true c 2048 low)) (next_byte c))
    (λ _. cond_both (ltb c 65536) _ _ (All IsByte)
    (λ low. three_bytes (224 + c / 4096) (128 + c / 64 % 64) (128 + c % 64) (omega (arith, ltb-true c 65536 low)) (next_byte (c / 64)) (next_byte c))
    (λ _. four_bytes (240 + c / 262144) (128 + c / 4096 % 64) (128 + c / 64 % 64) (128 + c % 64) (omega arith) (next_byte (c / 4096)) (next_byte (c / 64)) (next_byte c))))

All-encodes : (cs : List ℕ) → scalars cs ≡ true → All IsByte (encodes cs)
All-encodes [] valid = All-nil IsByte
All-encodes (c ∷ cs) valid =
    let parts = and_parts (scalar c) (scalars cs) valid in
    All-append IsByte (encode c) (encodes cs) (All-encode c parts.0) (All-encodes cs parts.1)

pub All-IsUtf8 : (bs : List ℕ) → IsUtf8 bs → All IsByte bs
All-IsUtf8 bs text = subst (All IsByte) text.1.1 (All-encodes text.0 text.1.0)

pub bytes_from_readable : (bs : List ℕ) → is_readable bs ≡ true → All IsByte bs
unfolding is_readable
bytes_from_readable bs readable =
    let first = and_parts _ _ readable in
    let second = and_parts _ _ first.0 in
    All-IsUtf8 bs (IsUtf8-from_is_utf8 bs second.1)

-- ---- ASCII texts without a control byte

-- no byte is this one, where each passes a test that this one fails
pub holds_byte-none : (p : ℕ → Bool) (b : ℕ) → ((c : ℕ) → p c ≡ true → (c == b) ≡ false) → (bs : List ℕ) → AllPass p bs → holds_byte bs b ≡ false
holds_byte-none p b apart [] pass = refl
holds_byte-none p b apart (c ∷ cs) pass =
    or_from _ _ (apart c (All-head (λ x. p x ≡ true) c cs pass)) (holds_byte-none p b apart cs (All-tail (λ x. p x ≡ true) c cs pass))

pub is_readable-ascii : (p : ℕ → Bool) → ((c : ℕ) → p c ≡ true → c < 128) → ((c : ℕ) → p c ≡ true → (c == carriage_return) ≡ false) → (bs : List ℕ) → 0 < length bs → AllPass p bs → is_readable bs ≡ true
unfolding is_readable
is_readable-ascii p ascii apart bs some pass =
    let filled : not (length bs == 0) ≡ true = grind (arith, nat_tests) in
    let text = is_utf8-from_IsUtf8 bs (IsUtf8-from_ascii bs (IsAscii-from_all bs (All-weaker (λ b. p b ≡ true) (λ b. b < 128) ascii bs pass))) in
    and_from _ _ (and_from _ _ filled text) (not_from_false _ (holds_byte-none p carriage_return apart bs pass))
