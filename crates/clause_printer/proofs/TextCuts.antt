-- Texts cut at bytes of ASCII: their parts are texts. A line that is read as marks is a text as it is read.
use Rattle.std.proofs.Common.{◌≡◌, ℕ, ◌<◌, ◌≤◌, ◌==◌, Bool, true, false, cond, not, List, [], ◌∷◌, ◌++◌, length, length-append, refl, sym, ap, subst, ◌∙◌, inl, inr, append-nil, arith}
use Rattle.std.specs.List.{AllPass, list_any}
use Rattle.std.specs.Str.{IsUtf8}
use Rattle.std.proofs.Math.Seq.{drop-append_seam, get_or-append_seam, take-append_seam}
use Rattle.std.proofs.Math.Utf8.{encode, encodes, scalar, scalars}
use Rattle.std.proofs.lemmas.Bool.{and_parts, cases_Bool, cases_lt, cond_both, eqb-true, or_cases, or_from, or_parts}
use Rattle.std.proofs.lemmas.List.{map-append}
use Rattle.std.proofs.lemmas.List.Elements.{All-head, All-tail}
use Rattle.std.proofs.lemmas.List.Folds.{list_any-append}
use Rattle.std.proofs.lemmas.Str.{IsCharBoundary-after_ascii, IsCharBoundary-before_ascii, IsUtf8-drop, IsUtf8-nil, IsUtf8-take, encode_ascii, len_utf8_bounds, length-encode}
use Rattle.rel_io.specs.Texts.{IsText, is_line_feed, is_return}
use Rattle.obo_lexer.specs.Tokens.{is_blank}
use Rattle.obo_clause.specs.declared.mark.MarkedByte.{MarkedByte}
use Rattle.obo_clause.specs.Marks.{marks_of, meant, read_as}
use Rattle.obo_clause.specs.Spelled.{IsLine}
use Rattle.obo_clause.specs.Grammar.{AreBlanks}
use Rattle.obo_clause.specs.Vocabulary.{is_space}
use Rattle.clause_printer.proofs.SpelledMarks.{AreHigh, AreHigh-encode, IsUtf8-byte, IsUtf8-encode_append, marks_of-bare}

-- ---- cuts of bytes

-- nothing, or a byte of ASCII and more
abbrev pub StartsLow : List ℕ → Type 0
StartsLow [] = Unit {0}
StartsLow (byte ∷ bytes) = byte < 128

pub utf8_front : (byte : ℕ) (bytes : List ℕ) → byte < 128 → IsUtf8 (byte ∷ bytes) → IsUtf8 bytes
utf8_front byte bytes low is =
    IsUtf8-drop (byte ∷ bytes) 1 is (IsCharBoundary-after_ascii (byte ∷ bytes) 0 is (omega arith) low)

pub utf8_cut : (xs ys : List ℕ) → StartsLow ys → IsUtf8 (xs ++ ys) → IsUtf8 xs × IsUtf8 ys
utf8_cut xs [] low is = (subst IsUtf8 (append-nil xs) is, IsUtf8-nil)
utf8_cut xs (byte ∷ ys) low is =
    let here : length xs < length (xs ++ byte ∷ ys) = omega (arith, length-append xs (byte ∷ ys)) in
    let edge = IsCharBoundary-before_ascii (xs ++ byte ∷ ys) (length xs) here (subst (λ (n : ℕ). n < 128) (sym (get_or-append_seam xs byte ys 0)) low) in (
      subst IsUtf8 (take-append_seam xs (byte ∷ ys)) (IsUtf8-take (xs ++ byte ∷ ys) (length xs) is edge),
      subst IsUtf8 (drop-append_seam xs (byte ∷ ys)) (IsUtf8-drop (xs ++ byte ∷ ys) (length xs) is edge),
    )

none_parts : (p : ℕ → Bool) (xs ys : List ℕ) → list_any p (xs ++ ys) ≡ false → (list_any p xs ≡ false) × (list_any p ys ≡ false)
none_parts p xs ys none = or_parts (list_any p xs) (list_any p ys) (sym (list_any-append p xs ys) ∙ none)

pub text_front : (byte : ℕ) (bytes : List ℕ) → byte < 128 → IsText (byte ∷ bytes) → IsText bytes
text_front byte bytes low is = record { utf8 = utf8_front byte bytes low is.utf8; no_return = (none_parts is_return (byte ∷ []) bytes is.no_return).1 }

pub text_cut : (xs ys : List ℕ) → StartsLow ys → IsText (xs ++ ys) → IsText xs × IsText ys
text_cut xs ys low is =
    let utf8 = utf8_cut xs ys low is.utf8 in
    let no_return = none_parts is_return xs ys is.no_return in
    (record { utf8 = utf8.0; no_return = no_return.0 }, record { utf8 = utf8.1; no_return = no_return.1 })

pub line_cut : (xs ys : List ℕ) → StartsLow ys → IsLine (xs ++ ys) → IsLine xs × IsLine ys
line_cut xs ys low is =
    let utf8 = utf8_cut xs ys low is.utf8 in
    let no_line_feed = none_parts is_line_feed xs ys is.no_line_feed in
    let no_return = none_parts is_return xs ys is.no_return in (
      record { utf8 = utf8.0; no_line_feed = no_line_feed.0; no_return = no_return.0 },
      record { utf8 = utf8.1; no_line_feed = no_line_feed.1; no_return = no_return.1 },
    )

pub line_front : (byte : ℕ) (bytes : List ℕ) → byte < 128 → IsLine (byte ∷ bytes) → IsLine bytes
line_front byte bytes low is = record {
  utf8 = utf8_front byte bytes low is.utf8;
  no_line_feed = (none_parts is_line_feed (byte ∷ []) bytes is.no_line_feed).1;
  no_return = (none_parts is_return (byte ∷ []) bytes is.no_return).1;
}

pub blank_low : (byte : ℕ) → is_blank byte ≡ true → byte < 128
blank_low byte is =
    elim (or_cases (byte == 32) (byte == 9) is) [
      | inl same ↦ subst (λ (n : ℕ). n < 128) (sym (eqb-true byte 32 same)) (omega arith)
      | inr same ↦ subst (λ (n : ℕ). n < 128) (sym (eqb-true byte 9 same)) (omega arith)
    ]

pub line_behind_blanks : (blanks bytes : List ℕ) → AllPass is_blank blanks → IsLine (blanks ++ bytes) → IsLine bytes
line_behind_blanks [] bytes blank is = is
line_behind_blanks (byte ∷ blanks) bytes blank is =
    line_behind_blanks blanks bytes (All-tail (λ one. is_blank one ≡ true) byte blanks blank)
    (line_front byte (blanks ++ bytes) (blank_low byte (All-head (λ one. is_blank one ≡ true) byte blanks blank)) is)

pub starts_low_blanks : (blanks : List ℕ) → AllPass is_blank blanks → StartsLow blanks
starts_low_blanks [] blank = tt
starts_low_blanks (byte ∷ blanks) blank = blank_low byte (All-head (λ one. is_blank one ≡ true) byte blanks blank)

-- ---- marks are read as a text

high_is : (byte one : ℕ) → 128 ≤ byte → one < 128 → (byte == one) ≡ false
high_is byte one high low = elim (cases_Bool (byte == one)) [
  | inl same ↦ absurd (let e = eqb-true byte one same in omega arith)
  | inr other ↦ other
]

read_high : (high rest : List ℕ) → AreHigh high → read_as (marks_of (high ++ rest)) ≡ high ++ read_as (marks_of rest)
read_high [] rest h = refl
read_high (byte ∷ high) rest h =
    ap read_as (marks_of-bare byte (high ++ rest) (high_is byte 92 h.0 (omega arith))) ∙ ap (λ l. byte ∷ l) (read_high high rest h.1)

meant-high : (byte : ℕ) → 128 ≤ byte → meant byte ≡ byte
meant-high byte high = rw (high_is byte 110 high (omega arith), high_is byte 116 high (omega arith), high_is byte 87 high (omega arith)) refl

meant-low : (byte : ℕ) → byte < 128 → meant byte < 128
meant-low byte low =
    cond_both (byte == 110) 10 (cond (byte == 116) 9 (cond (byte == 87) 32 byte)) (λ n. n < 128) (λ _. omega arith)
    (λ _. cond_both (byte == 116) 9 (cond (byte == 87) 32 byte) (λ n. n < 128) (λ _. omega arith)
    (λ _. cond_both (byte == 87) 32 byte (λ n. n < 128) (λ _. omega arith) (λ _. low)))

read_escaped_high : (high rest : List ℕ) → 0 < length high → AreHigh high → read_as (marks_of (92 ∷ (high ++ rest))) ≡ high ++ read_as (marks_of rest)
read_escaped_high [] rest some h = absurd (omega arith)
read_escaped_high (byte ∷ high) rest some h =
    ap (λ (n : ℕ). n ∷ read_as (marks_of (high ++ rest))) (meant-high byte h.0) ∙ ap (λ l. byte ∷ l) (read_high high rest h.1)

-- a character behind a backslash
read_escaped : (char : ℕ) (rest : List ℕ) → scalar char ≡ true → IsUtf8 (read_as (marks_of rest)) → IsUtf8 (read_as (marks_of (92 ∷ (encode char ++ rest))))
read_escaped char rest is text =
    elim (cases_lt char 128) [
      | inl low ↦ rw (encode_ascii char low) (IsUtf8-byte (meant char) (read_as (marks_of rest)) (meant-low char low) text)
      | inr high ↦
          let some : 0 < length (encode char) = omega (arith, length-encode char, (len_utf8_bounds char).0) in
          subst IsUtf8 (sym (read_escaped_high (encode char) rest some (AreHigh-encode char high))) (IsUtf8-encode_append char (read_as (marks_of rest)) is text)
    ]

read_low : (char : ℕ) (rest : List ℕ) → char < 128 → (char == 92) ≡ false → IsUtf8 (read_as (marks_of rest)) → IsUtf8 (read_as (marks_of (char ∷ rest)))
read_low char rest low is text = subst IsUtf8 (ap read_as (sym (marks_of-bare char rest is))) (IsUtf8-byte char (read_as (marks_of rest)) low text)

-- one character more, where it is no backslash with more behind it
read_char : (char : ℕ) (rest : List ℕ) → scalar char ≡ true → (char == 92) ≡ false → IsUtf8 (read_as (marks_of rest)) → IsUtf8 (read_as (marks_of (encode char ++ rest)))
read_char char rest is other text =
    elim (cases_lt char 128) [
      | inl low ↦ rw (encode_ascii char low) (read_low char rest low other text)
      | inr high ↦ subst IsUtf8 (sym (read_high (encode char) rest (AreHigh-encode char high))) (IsUtf8-encode_append char (read_as (marks_of rest)) is text)
    ]

read_chars : (chars : List ℕ) → scalars chars ≡ true → IsUtf8 (read_as (marks_of (encodes chars)))
read_chars [] are = IsUtf8-nil
read_chars (char ∷ []) are =
    let one = (and_parts (scalar char) (scalars []) are).0 in
    elim (cases_Bool (char == 92)) [
      | inl same ↦
          let is : char ≡ 92 = eqb-true char 92 same in
          subst (λ (n : ℕ). IsUtf8 (read_as (marks_of (encode n ++ [])))) (sym is) (subst (λ (l : List ℕ). IsUtf8 (read_as (marks_of (l ++ [])))) (sym (encode_ascii 92 (omega arith))) (IsUtf8-byte 92 [] (omega arith) IsUtf8-nil))
      | inr other ↦ read_char char [] one other IsUtf8-nil
    ]
read_chars (char ∷ next ∷ chars) are =
    let parts = and_parts (scalar char) (scalars (next ∷ chars)) are in
    let later = and_parts (scalar next) (scalars chars) parts.1 in
    elim (cases_Bool (char == 92)) [
      | inl same ↦
          let is : char ≡ 92 = eqb-true char 92 same in
          subst (λ (n : ℕ). IsUtf8 (read_as (marks_of (encode n ++ encodes (next ∷ chars))))) (sym is)
          (subst (λ (l : List ℕ). IsUtf8 (read_as (marks_of (l ++ encodes (next ∷ chars))))) (sym (encode_ascii 92 (omega arith)))
          (read_escaped next (encodes chars) later.0 (read_chars chars later.1)))
      | inr other ↦ read_char char (encodes (next ∷ chars)) parts.0 other (read_chars (next ∷ chars) parts.1)
    ]

meant-no_return : (byte : ℕ) → (byte == 13) ≡ false → (meant byte == 13) ≡ false
meant-no_return byte is =
    cond_both (byte == 110) 10 (cond (byte == 116) 9 (cond (byte == 87) 32 byte)) (λ n. (n == 13) ≡ false) (λ _. refl)
    (λ _. cond_both (byte == 116) 9 (cond (byte == 87) 32 byte) (λ n. (n == 13) ≡ false) (λ _. refl)
    (λ _. cond_both (byte == 87) 32 byte (λ n. (n == 13) ≡ false) (λ _. refl) (λ _. is)))

read_no_return : (bytes : List ℕ) → list_any is_return bytes ≡ false → list_any is_return (read_as (marks_of bytes)) ≡ false
read_no_return [] none = refl
read_no_return (byte ∷ []) none = none
read_no_return (byte ∷ next ∷ bytes) none =
    let parts = or_parts (byte == 13) (list_any is_return (next ∷ bytes)) none in
    let later = or_parts (next == 13) (list_any is_return bytes) parts.1 in
    elim (cases_Bool (byte == 92)) [
      | inl same ↦ rw same (or_from _ _ (meant-no_return next later.0) (read_no_return bytes later.1))
      | inr other ↦ rw other (or_from _ _ parts.0 (read_no_return (next ∷ bytes) parts.1))
    ]

-- ---- cuts of marks

-- the marks are read as a text
abbrev pub Sound : List MarkedByte → Type 0
Sound marks = IsText (read_as marks)

pub sound_line : (bytes : List ℕ) → IsLine bytes → Sound (marks_of bytes)
sound_line bytes is = record {
  utf8 = subst (λ (l : List ℕ). IsUtf8 (read_as (marks_of l))) is.utf8.1.1 (read_chars is.utf8.0 is.utf8.1.0);
  no_return = read_no_return bytes is.no_return;
}

-- nothing, or a mark of an ASCII byte and more
abbrev pub LowStart : List MarkedByte → Type 0
LowStart [] = Unit {0}
LowStart (mark ∷ marks) = mark.byte < 128

low_read : (marks : List MarkedByte) → LowStart marks → StartsLow (read_as marks)
low_read [] low = tt
low_read (mark ∷ marks) low = low

pub sound_cut : (ms ns : List MarkedByte) → LowStart ns → Sound (ms ++ ns) → Sound ms × Sound ns
sound_cut ms ns low is = text_cut (read_as ms) (read_as ns) (low_read ns low) (subst IsText (map-append (λ (mark : MarkedByte). mark.byte) ms ns) is)

pub sound_front : (mark : MarkedByte) (marks : List MarkedByte) → mark.byte < 128 → Sound (mark ∷ marks) → Sound marks
sound_front mark marks low is = text_front mark.byte (read_as marks) low is

space_low : (mark : MarkedByte) → is_space mark ≡ true → mark.byte < 128
space_low mark is = blank_low mark.byte (and_parts (not mark.is_escaped) (is_blank mark.byte) is).1

pub sound_behind_blanks : (blanks marks : List MarkedByte) → AreBlanks blanks → Sound (blanks ++ marks) → Sound marks
sound_behind_blanks [] marks blank is = is
sound_behind_blanks (mark ∷ blanks) marks blank is =
    sound_behind_blanks blanks marks (All-tail (λ one. is_space one ≡ true) mark blanks blank)
    (sound_front mark (blanks ++ marks) (space_low mark (All-head (λ one. is_space one ≡ true) mark blanks blank)) is)

-- blanks begin with ASCII, and so do blanks with what begins with ASCII behind them
pub low_blanks : (blanks marks : List MarkedByte) → AreBlanks blanks → LowStart marks → LowStart (blanks ++ marks)
low_blanks [] marks blank low = low
low_blanks (mark ∷ blanks) marks blank low = space_low mark (All-head (λ one. is_space one ≡ true) mark blanks blank)

pub low_gap : (blanks marks : List MarkedByte) → 0 < length blanks → AreBlanks blanks → LowStart (blanks ++ marks)
low_gap [] marks some blank = absurd (omega arith)
low_gap (mark ∷ blanks) marks some blank = space_low mark (All-head (λ one. is_space one ≡ true) mark blanks blank)
