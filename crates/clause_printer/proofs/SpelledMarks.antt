-- Marks, and the bytes that are written for them, which are read as these marks again.
use Rattle.std.proofs.Common.{◌≡◌, ℕ, ◌<◌, ◌≤◌, ◌==◌, Bool, true, false, not, cond, if◌then◌else◌, ◌&&◌, ◌||◌, nat_lt, List, [], ◌∷◌, ◌++◌, refl, sym, ap, subst, ◌∙◌, inl, inr, append_assoc, arith}
use Rattle.std.specs.List.{AllPass, flat_map, list_all, list_any}
use Rattle.std.specs.Str.{IsUtf8}
use Rattle.std.proofs.Math.Utf8.{encode, encodes, scalar, scalars, low_scalar}
use Rattle.std.proofs.lemmas.Bool.{and_from, and_parts, both_ways, cases_Bool, cases_lt, cond_both, eqb-true, ltb-true, not-true, or_cases, or_from, or_parts}
use Rattle.std.proofs.lemmas.List.Elements.{All-head, All-tail}
use Rattle.std.proofs.lemmas.List.Folds.{list_any-append}
use Rattle.std.proofs.lemmas.Str.{IsUtf8-nil, encode_ascii}
use Rattle.rel_io.specs.Texts.{IsText, is_line_feed, is_return}
use Rattle.obo_clause.specs.declared.mark.MarkedByte.{MarkedByte}
use Rattle.obo_clause.specs.Marks.{bare, marks_of, meant, read_as}
use Rattle.clause_printer.specs.Printing.{letter_of, spelled_byte}
use Rattle.obo_clause.specs.Spelled.{IsLine}
use Rattle.obo_clause.specs.Vocabulary.{is_one_of}

-- what is written for marks
abbrev pub spelled : List MarkedByte → List ℕ
spelled marks = flat_map (λ mark. spelled_byte mark.is_escaped mark.byte) marks

-- the bytes are read as the marks, whatever stands behind them
pub record IsMarked (bytes : List ℕ) (marks : List MarkedByte) : Type 0 where
  pub read : (rest : List ℕ) → marks_of (bytes ++ rest) ≡ marks ++ marks_of rest

pub IsMarked-nil : IsMarked [] []
IsMarked-nil = record { read = λ rest. refl }

pub IsMarked-append : (xs ys : List ℕ) (ms ns : List MarkedByte) → IsMarked xs ms → IsMarked ys ns → IsMarked (xs ++ ys) (ms ++ ns)
IsMarked-append xs ys ms ns h k = record {
  read = λ rest. ap marks_of (append_assoc xs ys rest) ∙ h.read (ys ++ rest) ∙ ap (λ more. ms ++ more) (k.read rest) ∙ sym (append_assoc ms ns (marks_of rest));
}

pub marks_of-bare : (byte : ℕ) (rest : List ℕ) → (byte == 92) ≡ false → marks_of (byte ∷ rest) ≡ bare byte ∷ marks_of rest
marks_of-bare byte [] is = refl
marks_of-bare byte (next ∷ rest) is = rw is refl

-- a byte that is no backslash stands by itself
pub IsMarked-sign : (byte : ℕ) → (byte == 92) ≡ false → IsMarked (byte ∷ []) (bare byte ∷ [])
IsMarked-sign byte is = record { read = λ rest. marks_of-bare byte rest is }

-- one of some bytes passes what all of these pass
pub is_one_of-passes : (p : ℕ → Bool) (bytes : List ℕ) (byte : ℕ) → list_all p bytes ≡ true → is_one_of bytes byte ≡ true → p byte ≡ true
is_one_of-passes p [] byte all is = absurd (both_ways false refl is)
is_one_of-passes p (first ∷ bytes) byte all is =
    let parts = and_parts (p first) (list_all p bytes) all in
    elim (or_cases (byte == first) (is_one_of bytes byte) is) [
      | inl same ↦ subst (λ (one : ℕ). p one ≡ true) (sym (eqb-true byte first same)) parts.0
      | inr other ↦ is_one_of-passes p bytes byte parts.1 other
    ]

-- the mark is written so that it is read back: a byte of ASCII that its letter stands for, or one that stands by itself and
-- is no backslash and no LF
abbrev pub is_spellable : MarkedByte → Bool
is_spellable mark =
    if mark.is_escaped then nat_lt mark.byte 128 && (meant (letter_of mark.byte) == mark.byte)
    else not (mark.byte == 92 || mark.byte == 10)

spelled_one : (is_escaped : Bool) (byte : ℕ) → is_spellable (record { byte = byte; is_escaped = is_escaped }) ≡ true → IsMarked (spelled_byte is_escaped byte) (record { byte = byte; is_escaped = is_escaped } ∷ [])
spelled_one true byte is =
    let same : meant (letter_of byte) ≡ byte = eqb-true _ _ (and_parts (nat_lt byte 128) (meant (letter_of byte) == byte) is).1 in
    record { read = λ rest. ap (λ (one : ℕ). (let mark : MarkedByte = record { byte = one; is_escaped = true } in mark) ∷ marks_of rest) same }
spelled_one false byte is =
    IsMarked-sign byte (or_parts (byte == 92) (byte == 10) (not-true (byte == 92 || byte == 10) is)).0

pub IsMarked-spelled : (marks : List MarkedByte) → AllPass is_spellable marks → IsMarked (spelled marks) marks
IsMarked-spelled [] h = IsMarked-nil
IsMarked-spelled (mark ∷ marks) h =
    IsMarked-append (spelled_byte mark.is_escaped mark.byte) (spelled marks) (mark ∷ []) marks
    (spelled_one mark.is_escaped mark.byte (All-head (λ one. is_spellable one ≡ true) mark marks h))
    (IsMarked-spelled marks (All-tail (λ one. is_spellable one ≡ true) mark marks h))

-- ---- UTF-8

pub IsUtf8-byte : (byte : ℕ) (bytes : List ℕ) → byte < 128 → IsUtf8 bytes → IsUtf8 (byte ∷ bytes)
IsUtf8-byte byte bytes low is =
    (byte ∷ is.0, (and_from _ _ (low_scalar byte (omega arith)) is.1.0, rw (encode_ascii byte low) (ap (λ l. byte ∷ l) is.1.1)))

letter_of-low : (byte : ℕ) → byte < 128 → letter_of byte < 128
letter_of-low byte low =
    cond_both (byte == 10) 110 (cond (byte == 9) 116 (cond (byte == 32) 87 byte)) (λ n. n < 128) (λ _. omega arith)
    (λ _. cond_both (byte == 9) 116 (cond (byte == 32) 87 byte) (λ n. n < 128) (λ _. omega arith)
    (λ _. cond_both (byte == 32) 87 byte (λ n. n < 128) (λ _. omega arith) (λ _. low)))

IsUtf8-spelled_byte : (is_escaped : Bool) (byte : ℕ) (bytes : List ℕ) → byte < 128 → IsUtf8 bytes → IsUtf8 (spelled_byte is_escaped byte ++ bytes)
IsUtf8-spelled_byte true byte bytes low is =
    IsUtf8-byte 92 (letter_of byte ∷ bytes) (omega arith) (IsUtf8-byte (letter_of byte) bytes (letter_of-low byte low) is)
IsUtf8-spelled_byte false byte bytes low is = IsUtf8-byte byte bytes low is

-- the bytes of a character outside ASCII
abbrev pub AreHigh : List ℕ → Type 0
AreHigh [] = Unit {0}
AreHigh (byte ∷ bytes) = (128 ≤ byte) × AreHigh bytes

pub AreHigh-encode : (char : ℕ) → 128 ≤ char → AreHigh (encode char)
unfolding encode
AreHigh-encode char high =
    cond_both (nat_lt char 128) _ _ AreHigh (λ low. absurd (let l = ltb-true char 128 low in omega arith))
    (λ _. cond_both (nat_lt char 2048) _ _ AreHigh (λ _. (omega arith, (omega arith, tt)))
    (λ _. cond_both (nat_lt char 65536) _ _ AreHigh (λ _. (omega arith, (omega arith, (omega arith, tt))))
    (λ _. (omega arith, (omega arith, (omega arith, (omega arith, tt)))))))

-- bytes outside ASCII are written as they are
record HighSplit (high tail : List ℕ) (marks : List MarkedByte) : Type 0 where
  rest : List MarkedByte
  spells : spelled marks ≡ high ++ spelled rest
  each : AllPass is_spellable rest
  reads : tail ≡ read_as rest

high_is_bare : (is_escaped : Bool) (byte : ℕ) → 128 ≤ byte → is_spellable (record { byte = byte; is_escaped = is_escaped }) ≡ true → spelled_byte is_escaped byte ≡ byte ∷ []
high_is_bare true byte high is =
    absurd (let low = ltb-true byte 128 (and_parts (nat_lt byte 128) (meant (letter_of byte) == byte) is).0 in omega arith)
high_is_bare false byte high is = refl

high_split : (high tail : List ℕ) (marks : List MarkedByte) → AreHigh high → AllPass is_spellable marks → high ++ tail ≡ read_as marks → HighSplit high tail marks
high_split [] tail marks h each reads = record { rest = marks; spells = refl; each = each; reads = reads }
high_split (byte ∷ high) tail [] h each reads = absurd (let e : byte ∷ (high ++ tail) ≡ [] = reads in cc)
high_split (byte ∷ high) tail (mark ∷ marks) h each reads =
    let same : byte ≡ mark.byte = cc in
    let later : high ++ tail ≡ read_as marks = cc in
    let split = high_split high tail marks h.1 (All-tail (λ one. is_spellable one ≡ true) mark marks each) later in
    record {
      rest = split.rest;
      spells =
          ap (λ l. l ++ spelled marks) (high_is_bare mark.is_escaped mark.byte (subst (λ (n : ℕ). 128 ≤ n) same h.0) (All-head (λ one. is_spellable one ≡ true) mark marks each))
          ∙ ap (λ l. mark.byte ∷ l) split.spells ∙ ap (λ (n : ℕ). n ∷ (high ++ spelled split.rest)) (sym same);
      each = split.each;
      reads = split.reads;
    }

pub IsUtf8-encode_append : (char : ℕ) (bytes : List ℕ) → scalar char ≡ true → IsUtf8 bytes → IsUtf8 (encode char ++ bytes)
IsUtf8-encode_append char bytes is text =
    (char ∷ text.0, (and_from _ _ is text.1.0, ap (λ l. encode char ++ l) text.1.1))

spelled_chars : (chars : List ℕ) (marks : List MarkedByte) → scalars chars ≡ true → AllPass is_spellable marks → encodes chars ≡ read_as marks → IsUtf8 (spelled marks)
spelled_chars [] [] scalar each reads = IsUtf8-nil
spelled_chars [] (mark ∷ marks) scalar each reads = absurd (let e : [] ≡ mark.byte ∷ read_as marks = reads in cc)
spelled_chars (char ∷ chars) marks are each reads =
    let parts = and_parts (scalar char) (scalars chars) are in
    elim (cases_lt char 128) [
      | inl low ↦ spelled_low char chars marks parts.1 low each (subst (λ (l : List ℕ). l ++ encodes chars ≡ read_as marks) (encode_ascii char low) reads) (spelled_chars chars)
      | inr high ↦
          let split = high_split (encode char) (encodes chars) marks (AreHigh-encode char high) each reads in
          subst IsUtf8 (sym split.spells) (IsUtf8-encode_append char (spelled split.rest) parts.0 (spelled_chars chars split.rest parts.1 split.each split.reads))
    ]
  where
    spelled_low : (char : ℕ) (chars : List ℕ) (marks : List MarkedByte) → scalars chars ≡ true → char < 128 → AllPass is_spellable marks → char ∷ encodes chars ≡ read_as marks → ((marks : List MarkedByte) → scalars chars ≡ true → AllPass is_spellable marks → encodes chars ≡ read_as marks → IsUtf8 (spelled marks)) → IsUtf8 (spelled marks)
    spelled_low char chars [] are low each reads rec = absurd (let e : char ∷ encodes chars ≡ [] = reads in cc)
    spelled_low char chars (mark ∷ marks) are low each reads rec =
        let same : char ≡ mark.byte = cc in
        let later : encodes chars ≡ read_as marks = cc in
        IsUtf8-spelled_byte mark.is_escaped mark.byte (spelled marks) (subst (λ (n : ℕ). n < 128) same low)
        (rec marks are (All-tail (λ one. is_spellable one ≡ true) mark marks each) later)

pub IsUtf8-spelled : (marks : List MarkedByte) → AllPass is_spellable marks → IsUtf8 (read_as marks) → IsUtf8 (spelled marks)
IsUtf8-spelled marks each is = spelled_chars is.0 marks is.1.0 each is.1.1

-- ---- no LF and no CR

letter_of-no_feed : (byte : ℕ) → (letter_of byte == 10) ≡ false
letter_of-no_feed byte =
    elim (cases_Bool (byte == 10)) [
      | inl is ↦ rw is refl
      | inr no_feed ↦ rw no_feed (cond_both (byte == 9) 116 (cond (byte == 32) 87 byte) (λ n. (n == 10) ≡ false) (λ _. refl)
          (λ _. cond_both (byte == 32) 87 byte (λ n. (n == 10) ≡ false) (λ _. refl) (λ _. no_feed)))
    ]

letter_of-no_return : (byte : ℕ) → (byte == 13) ≡ false → (letter_of byte == 13) ≡ false
letter_of-no_return byte is =
    cond_both (byte == 10) 110 (cond (byte == 9) 116 (cond (byte == 32) 87 byte)) (λ n. (n == 13) ≡ false) (λ _. refl)
    (λ _. cond_both (byte == 9) 116 (cond (byte == 32) 87 byte) (λ n. (n == 13) ≡ false) (λ _. refl)
    (λ _. cond_both (byte == 32) 87 byte (λ n. (n == 13) ≡ false) (λ _. refl) (λ _. is)))

feed_one : (is_escaped : Bool) (byte : ℕ) → is_spellable (record { byte = byte; is_escaped = is_escaped }) ≡ true → list_any is_line_feed (spelled_byte is_escaped byte) ≡ false
feed_one true byte is = rw (letter_of-no_feed byte) refl
feed_one false byte is = rw ((or_parts (byte == 92) (byte == 10) (not-true (byte == 92 || byte == 10) is)).1) refl

return_one : (is_escaped : Bool) (byte : ℕ) → (byte == 13) ≡ false → list_any is_return (spelled_byte is_escaped byte) ≡ false
return_one true byte is = rw (letter_of-no_return byte is) refl
return_one false byte is = rw is refl

pub no_feed-spelled : (marks : List MarkedByte) → AllPass is_spellable marks → list_any is_line_feed (spelled marks) ≡ false
no_feed-spelled [] each = refl
no_feed-spelled (mark ∷ marks) each =
    list_any-append is_line_feed (spelled_byte mark.is_escaped mark.byte) (spelled marks)
    ∙ or_from _ _ (feed_one mark.is_escaped mark.byte (All-head (λ one. is_spellable one ≡ true) mark marks each)) (no_feed-spelled marks (All-tail (λ one. is_spellable one ≡ true) mark marks each))

pub no_return-spelled : (marks : List MarkedByte) → list_any is_return (read_as marks) ≡ false → list_any is_return (spelled marks) ≡ false
no_return-spelled [] is = refl
no_return-spelled (mark ∷ marks) is =
    let parts = or_parts (mark.byte == 13) (list_any is_return (read_as marks)) is in
    list_any-append is_return (spelled_byte mark.is_escaped mark.byte) (spelled marks)
    ∙ or_from _ _ (return_one mark.is_escaped mark.byte parts.0) (no_return-spelled marks parts.1)

-- what is written for the marks of a text may stand in a line
pub IsLine-spelled : (marks : List MarkedByte) → AllPass is_spellable marks → IsText (read_as marks) → IsLine (spelled marks)
IsLine-spelled marks each is = record {
  utf8 = IsUtf8-spelled marks each is.utf8;
  no_line_feed = no_feed-spelled marks each;
  no_return = no_return-spelled marks is.no_return;
}
