-- What the parts of a file between its LFs are: none ends in bytes without LF, one ends at the first LF.
use Rattle.std.proofs.Common.{◌≡◌, ℕ, suc, ◌<◌, Bool, true, false, List, [], ◌∷◌, ◌++◌, Some, None, length, get_or, take, ◌||◌, refl, sym, ap, ◌∙◌, ⊎_elim, arith, inl, inr}
use Rattle.std.specs.List.{list_any, onto_first, slice_split}
use Rattle.std.proofs.lemmas.Bool.{cases_Bool}
use Rattle.std.proofs.lemmas.List.{get_or-take, length-take-le}
use Rattle.memchr.specs.Find.{IsFirstByte, is_byte}
use Rattle.rel_io.specs.Texts.{is_line_feed}
use Rattle.obo_lexer.specs.Lines.{HasNoLineFeed, all_but_last, ended_lines, last_part, rest_of}

-- each byte, one by one, is no LF
abbrev pub NoFeed : List ℕ → Type 0
NoFeed [] = Unit {0}
NoFeed (b ∷ bs) = (is_line_feed b ≡ false) × NoFeed bs

or_false : (a b : Bool) → (a || b) ≡ false → (a ≡ false) × (b ≡ false)
or_false true b h = cc
or_false false b h = (refl, h)

pub NoFeed-from_test : (bs : List ℕ) → HasNoLineFeed bs → NoFeed bs
NoFeed-from_test [] h = tt
NoFeed-from_test (b ∷ bs) h =
    let p = or_false (is_line_feed b) (list_any is_line_feed bs) h in (p.0, NoFeed-from_test bs p.1)

pub test-from_NoFeed : (bs : List ℕ) → NoFeed bs → HasNoLineFeed bs
test-from_NoFeed [] h = refl
test-from_NoFeed (b ∷ bs) h = rw h.0 (test-from_NoFeed bs h.1)

pub NoFeed-append : (xs ys : List ℕ) → NoFeed xs → NoFeed ys → NoFeed (xs ++ ys)
NoFeed-append [] ys a b = b
NoFeed-append (x ∷ xs) ys a b = (a.0, NoFeed-append xs ys a.1 b)

-- no place of an LF is none at all
pub NoFeed-from_places : (bs : List ℕ) → ((k : ℕ) → k < length bs → is_line_feed (get_or bs k 0) ≡ true → ⊥) → NoFeed bs
NoFeed-from_places [] h = tt
NoFeed-from_places (b ∷ bs) h = (
  ⊎_elim (λ is. absurd (h 0 (omega arith) is)) (λ is. is) (cases_Bool (is_line_feed b)),
  NoFeed-from_places bs (λ k l is. h (suc k) (omega arith) is),
)

-- what a search for LF says where it finds none
pub NoFeed-from_none : (bs : List ℕ) → IsFirstByte (is_byte 10) bs None → NoFeed bs
NoFeed-from_none bs h = NoFeed-from_places bs (λ k l is. h k (omega arith) l is)

-- what a search for LF says where it finds one
pub NoFeed-before : (bs : List ℕ) (at : ℕ) → IsFirstByte (is_byte 10) bs (Some at) → NoFeed (take at bs)
NoFeed-before bs at h =
    NoFeed-from_places (take at bs) (λ k l is. let n : length (take at bs) ≡ at = length-take-le at bs (let q = h.0.high in omega arith) in let within : k < at = omega arith in h.0.before k (omega arith) within (sym (ap is_line_feed (get_or-take at bs k 0 within)) ∙ is))

split-none : (xs : List ℕ) → NoFeed xs → slice_split is_line_feed xs ≡ xs ∷ []
split-none [] h = refl
split-none (b ∷ bs) h = rw (h.0, split-none bs h.1) refl

split-one : (xs ys : List ℕ) → NoFeed xs → slice_split is_line_feed (xs ++ 10 ∷ ys) ≡ xs ∷ slice_split is_line_feed ys
split-one [] ys h = refl
split-one (b ∷ bs) ys h = rw (h.0, split-one bs ys h.1) refl

-- there is always a first part
pub split-cons : (xs : List ℕ) → (first : List ℕ) × (parts : List (List ℕ)) × (slice_split is_line_feed xs ≡ first ∷ parts)
split-cons [] = ([], [], refl)
split-cons (b ∷ bs) =
    let rec = split-cons bs in
    elim (cases_Bool (is_line_feed b)) [
      | inl is ↦ ([], slice_split is_line_feed bs, rw is refl)
      | inr is ↦ (b ∷ rec.0, rec.1, rw (is, rec.2) refl)
    ]

-- the parts behind a part are the lines that end there, and the rest
pub ended-cons : (x : List ℕ) (ys : List ℕ) → all_but_last (x ∷ slice_split is_line_feed ys) ≡ x ∷ ended_lines ys
ended-cons x ys = let s = split-cons ys in rw s.2 refl

pub rest-cons : (x : List ℕ) (ys : List ℕ) → last_part (x ∷ slice_split is_line_feed ys) ≡ rest_of ys
rest-cons x ys = let s = split-cons ys in rw s.2 refl

pub ended_lines-none : (xs : List ℕ) → NoFeed xs → ended_lines xs ≡ []
ended_lines-none xs h = ap all_but_last (split-none xs h)

pub rest_of-none : (xs : List ℕ) → NoFeed xs → rest_of xs ≡ xs
rest_of-none xs h = ap last_part (split-none xs h)

pub ended_lines-one : (xs ys : List ℕ) → NoFeed xs → ended_lines (xs ++ 10 ∷ ys) ≡ xs ∷ ended_lines ys
ended_lines-one xs ys h = ap all_but_last (split-one xs ys h) ∙ ended-cons xs ys

pub rest_of-one : (xs ys : List ℕ) → NoFeed xs → rest_of (xs ++ 10 ∷ ys) ≡ rest_of ys
rest_of-one xs ys h = ap last_part (split-one xs ys h) ∙ rest-cons xs ys

-- a byte before bytes of which more are known
split-onto : (b : ℕ) (ys : List ℕ) → is_line_feed b ≡ false → (parts all : List (List ℕ)) → all ≡ all_but_last parts ++ slice_split is_line_feed (last_part parts ++ ys) → onto_first b all ≡ all_but_last (onto_first b parts) ++ slice_split is_line_feed (last_part (onto_first b parts) ++ ys)
split-onto b ys is [] all e = rw (e, is) refl
split-onto b ys is (x ∷ []) all e = rw (e, is) refl
split-onto b ys is (x ∷ y ∷ parts) all e = rw e refl

-- more bytes go on where the rest ends
split-append : (xs ys : List ℕ) → slice_split is_line_feed (xs ++ ys) ≡ ended_lines xs ++ slice_split is_line_feed (rest_of xs ++ ys)
split-append [] ys = refl
split-append (b ∷ bs) ys =
    let rec = split-append bs ys in
    elim (cases_Bool (is_line_feed b)) [
      | inl is ↦ rw is (rw rec (rw (ended-cons [] bs, rest-cons [] bs) refl))
      | inr is ↦ rw is (split-onto b ys is (slice_split is_line_feed bs) _ rec)
    ]

-- what stands before some parts does not change the rest
all_but_last-append : (lines : List (List ℕ)) (ys : List ℕ) → all_but_last (lines ++ slice_split is_line_feed ys) ≡ lines ++ ended_lines ys
all_but_last-append [] ys = refl
all_but_last-append (x ∷ []) ys = ended-cons x ys
all_but_last-append (x ∷ y ∷ lines) ys = ap (λ l. x ∷ l) (all_but_last-append (y ∷ lines) ys)

last_part-append : (lines : List (List ℕ)) (ys : List ℕ) → last_part (lines ++ slice_split is_line_feed ys) ≡ rest_of ys
last_part-append [] ys = refl
last_part-append (x ∷ []) ys = rest-cons x ys
last_part-append (x ∷ y ∷ lines) ys = last_part-append (y ∷ lines) ys

pub ended_lines-append : (xs ys : List ℕ) → ended_lines (xs ++ ys) ≡ ended_lines xs ++ ended_lines (rest_of xs ++ ys)
ended_lines-append xs ys = ap all_but_last (split-append xs ys) ∙ all_but_last-append (ended_lines xs) (rest_of xs ++ ys)

pub rest_of-append : (xs ys : List ℕ) → rest_of (xs ++ ys) ≡ rest_of (rest_of xs ++ ys)
rest_of-append xs ys = ap last_part (split-append xs ys) ∙ last_part-append (ended_lines xs) (rest_of xs ++ ys)
