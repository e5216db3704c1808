-- What the columns of a text are, from left to right.
use Rattle.std.proofs.Common.{◌≡◌, ℕ, suc, ◌+◌, Bool, true, false, List, [], ◌∷◌, inl, inr, ◌==◌, drop, take, length, get_or, ◌<◌, ◌≤◌, refl, sym, ap, subst, ◌∙◌, arith}
use Rattle.std.specs.Prelude.{filter}
use Rattle.std.specs.List.{onto_first, prefix_len, slice_split}
use Rattle.std.proofs.lemmas.Bool.{cases_Bool, false≢true}
use Rattle.std.proofs.lemmas.List.Splits.{slice_split-cons_yes}
use Rattle.std.proofs.lemmas.List.Sums.{prefix_len-drop_yes}
use Rattle.obo_lexer.specs.Tokens.{is_blank}
use Rattle.text_columns.specs.Columns.{before_comment, columns_of, is_filled}
use Rattle.text_columns.specs.inner.Columns.{behind_blanks, is_done, is_part}

-- ---- runs of bytes

-- a run that goes on up to a place ends where the run from there on ends
pub record RunsTo (passes : ℕ → Bool) (bytes : List ℕ) (place : ℕ) : Type 0 where
  pub within : place ≤ length bytes
  pub from : prefix_len passes bytes ≡ place + prefix_len passes (drop place bytes)

pub runs-begin : (passes : ℕ → Bool) (bytes : List ℕ) → RunsTo passes bytes 0
runs-begin passes bytes = record { within = omega arith; from = omega arith }

pub runs-on : (passes : ℕ → Bool) (bytes : List ℕ) (place : ℕ) (d : ℕ) → RunsTo passes bytes place → place < length bytes → passes (get_or bytes place d) ≡ true → RunsTo passes bytes (place + 1)
runs-on passes bytes place d run less passed =
    let w = run.from in
    let e = prefix_len-drop_yes passes bytes place d less passed in
    record { within = omega arith; from = omega (arith, w, e) }

one_more : (n : ℕ) → 1 + n ≡ suc n
one_more n = omega arith

-- ---- blanks before a column

-- a text that does not begin with a blank, and one that does not begin with another byte
abbrev pub StartsPlain : List ℕ → Type 0
StartsPlain [] = Unit {0}
StartsPlain (byte ∷ bytes) = is_blank byte ≡ false

abbrev pub StartsBlank : List ℕ → Type 0
StartsBlank [] = Unit {0}
StartsBlank (byte ∷ bytes) = is_blank byte ≡ true

behind-blank : (b : ℕ) (bs : List ℕ) → is_blank b ≡ true → behind_blanks (b ∷ bs) ≡ behind_blanks bs
behind-blank b bs is = rw (is, one_more (prefix_len is_blank bs)) refl

behind-part : (b : ℕ) (bs : List ℕ) → is_blank b ≡ false → behind_blanks (b ∷ bs) ≡ b ∷ bs
behind-part b bs is = rw is refl

blank-first : (b : ℕ) (bs : List ℕ) → is_blank b ≡ true → columns_of (b ∷ bs) ≡ columns_of bs
unfolding columns_of
blank-first b bs is = ap (λ parts. before_comment (filter is_filled parts)) (slice_split-cons_yes is_blank b bs is)

pub behind-same : (text : List ℕ) → columns_of text ≡ columns_of (behind_blanks text)
behind-same [] = refl
behind-same (b ∷ bs) =
    elim (cases_Bool (is_blank b)) [
      | inl is ↦ blank-first b bs is ∙ (behind-same bs ∙ ap columns_of (sym (behind-blank b bs is)))
      | inr is ↦ ap columns_of (sym (behind-part b bs is))
    ]

pub behind-plain : (text : List ℕ) → StartsPlain (behind_blanks text)
behind-plain [] = tt
behind-plain (b ∷ bs) =
    elim (cases_Bool (is_blank b)) [
      | inl is ↦ subst StartsPlain (sym (behind-blank b bs is)) (behind-plain bs)
      | inr is ↦ subst StartsPlain (sym (behind-part b bs is)) is
    ]

-- ---- the next column

onto-comment : (b : ℕ) (parts : List (List ℕ)) → (b == 35) ≡ true → before_comment (filter is_filled (onto_first b parts)) ≡ []
onto-comment b [] is = rw is refl
onto-comment b (part ∷ parts) is = rw is refl

-- where nothing is left or a comment begins, there is no column
pub none-left : (rest : List ℕ) → StartsPlain rest → is_done rest ≡ true → columns_of rest ≡ []
unfolding columns_of
none-left [] plain is = refl
none-left (b ∷ bs) plain is = rw plain (onto-comment b (slice_split is_blank bs) is)

-- the parts behind the blank that ends the first part
abbrev parts_behind : List ℕ → List (List ℕ)
parts_behind [] = []
parts_behind (b ∷ bs) = slice_split is_blank bs

split-run : (text : List ℕ) → slice_split is_blank text ≡ take (prefix_len is_part text) text ∷ parts_behind (drop (prefix_len is_part text) text)
split-run [] = refl
split-run (b ∷ bs) =
    elim (cases_Bool (is_blank b)) [ inl is ↦ rw is refl | inr is ↦ rw (is, one_more (prefix_len is_part bs)) (ap (onto_first b) (split-run bs)) ]

run-stops : (text : List ℕ) → StartsBlank (drop (prefix_len is_part text) text)
run-stops [] = tt
run-stops (b ∷ bs) =
    elim (cases_Bool (is_blank b)) [ inl is ↦ rw is is | inr is ↦ rw (is, one_more (prefix_len is_part bs)) (run-stops bs) ]

columns-behind : (rest : List ℕ) → StartsBlank rest → columns_of rest ≡ before_comment (filter is_filled (parts_behind rest))
unfolding columns_of
columns-behind [] blank = refl
columns-behind (b ∷ bs) blank = blank-first b bs blank

first-filled : (b : ℕ) (bs : List ℕ) (parts : List (List ℕ)) → is_blank b ≡ false → (b == 35) ≡ false → before_comment (filter is_filled (take (prefix_len is_part (b ∷ bs)) (b ∷ bs) ∷ parts)) ≡ take (prefix_len is_part (b ∷ bs)) (b ∷ bs) ∷ before_comment (filter is_filled parts)
first-filled b bs parts plain other = rw (plain, one_more (prefix_len is_part bs), other) refl

-- otherwise the first column is what stands before the next blank
pub one-more : (rest : List ℕ) → StartsPlain rest → is_done rest ≡ false → columns_of rest ≡ take (prefix_len is_part rest) rest ∷ columns_of (drop (prefix_len is_part rest) rest)
unfolding columns_of
one-more [] plain is = absurd (false≢true (sym is))
one-more (b ∷ bs) plain is =
    let rest = drop (prefix_len is_part (b ∷ bs)) (b ∷ bs) in
    ap (λ parts. before_comment (filter is_filled parts)) (split-run (b ∷ bs)) ∙ (first-filled b bs (parts_behind rest) plain is ∙ ap (λ more. take (prefix_len is_part (b ∷ bs)) (b ∷ bs) ∷ more) (sym (columns-behind rest (run-stops (b ∷ bs)))))
