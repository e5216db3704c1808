-- The parts around the first and the last separator.
use Rattle.std.proofs.Common.{◌≡◌, ℕ, ◌+◌, ◌-◌, ◌<◌, ◌≤◌, false, ◌==◌, List, [], ◌∷◌, ◌++◌, length, get_or, take, drop, Some, None, refl, sym, ap, ◌∙◌, arith, add-one, take-append-drop, drop-cons, length-drop}
use Rattle.std.specs.List.{All}
use Rattle.std.specs.Option.{option_map}
use Rattle.std.proofs.lemmas.Bool.{cond-true, cond-false, eq-eqb, false_from_ne_true, eqb-true}
use Rattle.std.proofs.lemmas.List.Elements.{All-head, All-tail, All-from_get_or}
use Rattle.std.proofs.lemmas.List.{get_or-take, get_or-drop, length-take}
use Rattle.std.proofs.Math.Seq.{take-length}
use Rattle.memchr.specs.Find.{is_byte, Passes, Nowhere, NoneBefore, NoneAfter}
use Rattle.iri_map.specs.Split.{onto_front, split_at_first, split_at_last}

-- the byte is another one
abbrev pub IsOther : ℕ → ℕ → Type 0
IsOther separator b = (b == separator) ≡ false

-- the first separator is the one behind a text without it
pub split_at_first-parts : (separator : ℕ) (xs ys : List ℕ) → All (IsOther separator) xs → split_at_first separator (xs ++ separator ∷ ys) ≡ Some (xs, ys)
split_at_first-parts separator [] ys other = cond-true _ _ _ (eq-eqb separator separator refl)
split_at_first-parts separator (x ∷ xs) ys other =
    cond-false _ _ _ (All-head (IsOther separator) x xs other) ∙ ap (option_map (onto_front x)) (split_at_first-parts separator xs ys (All-tail (IsOther separator) x xs other))

pub split_at_first-none : (separator : ℕ) (xs : List ℕ) → All (IsOther separator) xs → split_at_first separator xs ≡ None
split_at_first-none separator [] other = refl
split_at_first-none separator (x ∷ xs) other =
    cond-false _ _ _ (All-head (IsOther separator) x xs other) ∙ ap (option_map (onto_front x)) (split_at_first-none separator xs (All-tail (IsOther separator) x xs other))

pub split_at_last-none : (separator : ℕ) (xs : List ℕ) → All (IsOther separator) xs → split_at_last separator xs ≡ None
split_at_last-none separator [] other = refl
split_at_last-none separator (x ∷ xs) other =
    rw (split_at_last-none separator xs (All-tail (IsOther separator) x xs other)) (cond-false _ _ _ (All-head (IsOther separator) x xs other))

-- the last separator is the one before a text without it
pub split_at_last-parts : (separator : ℕ) (xs ys : List ℕ) → All (IsOther separator) ys → split_at_last separator (xs ++ separator ∷ ys) ≡ Some (xs, ys)
split_at_last-parts separator [] ys other =
    rw (split_at_last-none separator ys other) (cond-true _ _ _ (eq-eqb separator separator refl))
split_at_last-parts separator (x ∷ xs) ys other = rw (split_at_last-parts separator xs ys other) refl

-- a text is what stands before one of its bytes, that byte, and what stands after it
around : (bs : List ℕ) (k : ℕ) (b : ℕ) → k < length bs → get_or bs k 0 ≡ b → bs ≡ take k bs ++ b ∷ drop (k + 1) bs
around bs k b inside is =
    sym (take-append-drop k bs) ∙ ap (λ rest. take k bs ++ rest) (drop-cons bs k 0 inside ∙ rw (is, add-one) refl)

-- what `&text[k + 1..]` gives
pub rest_of_slice : (bs : List ℕ) (k : ℕ) → take (length bs - (k + 1)) (drop (k + 1) bs) ≡ drop (k + 1) bs
rest_of_slice bs k = rw (sym (length-drop (k + 1) bs)) (take-length (drop (k + 1) bs))

all_other_before : (separator : ℕ) (bs : List ℕ) (k : ℕ) → k ≤ length bs → Nowhere (Passes (is_byte separator) bs) 0 k → All (IsOther separator) (take k bs)
all_other_before separator bs k within nowhere =
    All-from_get_or (IsOther separator) (take k bs) 0 (λ i inside.
    let below : i < k = omega (arith, length-take k bs) in
    rw (get_or-take k bs i 0 below) (false_from_ne_true _ (nowhere i (omega arith) below)))

all_other_after : (separator : ℕ) (bs : List ℕ) (k : ℕ) → Nowhere (Passes (is_byte separator) bs) k (length bs) → All (IsOther separator) (drop k bs)
all_other_after separator bs k nowhere =
    All-from_get_or (IsOther separator) (drop k bs) 0 (λ i inside.
    rw (get_or-drop k bs i 0) (false_from_ne_true _ (nowhere (k + i) (omega arith) (omega (arith, length-drop k bs)))))

-- the places that `memchr` and `memrchr` give cut the text
pub split_at_first-place : (separator : ℕ) (bs : List ℕ) (k : ℕ) → NoneBefore (Passes (is_byte separator) bs) 0 (length bs) k → Passes (is_byte separator) bs k → split_at_first separator bs ≡ Some (take k bs, drop (k + 1) bs)
split_at_first-place separator bs k place passes =
    let inside : k < length bs = place.high in
    ap (split_at_first separator) (around bs k separator inside (eqb-true _ _ passes))
    ∙ split_at_first-parts separator (take k bs) (drop (k + 1) bs) (all_other_before separator bs k (omega arith) place.before)

pub split_at_last-place : (separator : ℕ) (bs : List ℕ) (k : ℕ) → NoneAfter (Passes (is_byte separator) bs) 0 (length bs) k → Passes (is_byte separator) bs k → split_at_last separator bs ≡ Some (take k bs, drop (k + 1) bs)
split_at_last-place separator bs k place passes =
    let inside : k < length bs = place.high in
    ap (split_at_last separator) (around bs k separator inside (eqb-true _ _ passes))
    ∙ split_at_last-parts separator (take k bs) (drop (k + 1) bs) (all_other_after separator bs (k + 1) place.after)

-- where they give none, no byte is the separator
pub all_other-nowhere : (separator : ℕ) (bs : List ℕ) → Nowhere (Passes (is_byte separator) bs) 0 (length bs) → All (IsOther separator) bs
all_other-nowhere separator bs nowhere = all_other_after separator bs 0 nowhere
