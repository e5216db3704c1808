-- The parts of a printed line: each is written for marks that are the part.
use Rattle.std.proofs.Common.{◌≡◌, ℕ, ◌<◌, ◌==◌, Bool, true, false, not, ◌&&◌, ◌||◌, nat_lt, List, [], ◌∷◌, ◌++◌, codes, length, map, refl, sym, ap, subst, ◌∙◌, inl, inr, arith}
use Rattle.std.specs.List.{AllPass, flat_map, list_all}
use Rattle.std.proofs.lemmas.Bool.{both_ways, cases_Bool, eqb-true, false_from_ne_true, not-true, not_from_false, or_cases, or_from}
use Rattle.std.proofs.lemmas.List.Elements.{All-cons, All-head, All-nil, All-tail}
use Rattle.std.proofs.lemmas.List.Folds.{list_any-append}
use Rattle.std.proofs.lemmas.Str.{IsUtf8-append, IsUtf8-nil}
use Rattle.rel_io.specs.Texts.{IsText, IsWordText, is_line_feed, is_return}
use Rattle.obo_lexer.specs.Tokens.{is_blank}
use Rattle.obo_clause.specs.declared.clause.Qualifier.{Qualifier}
use Rattle.obo_clause.specs.Grammar.{AreBlanks, AreQualifiers, AreSlots, AreTrimmed, IsBlock, IsComment, IsEnding, IsEntry, IsFree, IsKey, IsLabel, IsQualifier, IsQuoted, IsSlot, IsTrimmed, IsWord, IsXrefList}
use Rattle.obo_clause.specs.Grammar as grammar
use Rattle.obo_clause.specs.declared.mark.MarkedByte.{MarkedByte}
use Rattle.obo_clause.specs.Marks.{bare, meant, read_as}
use Rattle.clause_printer.specs.Printing.{is_escaped_in_word, letter_of, spelled_byte, word_text}
use Rattle.obo_clause.specs.Spelled.{IsLine}
use Rattle.obo_clause.specs.Vocabulary.{block_close, block_open, exclamation, is_bare, is_entry_mark, is_one_of, is_quoted_mark, is_space, is_word_mark}
use Rattle.clause_printer.proofs.SpelledMarks.{IsLine-spelled, IsMarked, IsMarked-append, IsMarked-nil, IsMarked-sign, IsMarked-spelled, IsUtf8-byte, is_one_of-passes, is_spellable, spelled}

-- ---- what may stand in a line

pub IsLine-nil : IsLine []
IsLine-nil = record { utf8 = IsUtf8-nil; no_line_feed = refl; no_return = refl }

pub IsLine-append : (xs ys : List ℕ) → IsLine xs → IsLine ys → IsLine (xs ++ ys)
IsLine-append xs ys h k = record {
  utf8 = IsUtf8-append xs ys h.utf8 k.utf8;
  no_line_feed = list_any-append is_line_feed xs ys ∙ or_from _ _ h.no_line_feed k.no_line_feed;
  no_return = list_any-append is_return xs ys ∙ or_from _ _ h.no_return k.no_return;
}

-- ---- written for marks of a kind

-- the bytes are written for such marks, and may stand in a line
pub record Prints (P : List MarkedByte → Type 0) (bytes : List ℕ) : Type 0 where
  pub marks : List MarkedByte
  pub marked : IsMarked bytes marks
  pub is : P marks
  pub line : IsLine bytes

pub Prints-append : (P Q R : List MarkedByte → Type 0) (xs ys : List ℕ) → ((ms ns : List MarkedByte) → P ms → Q ns → R (ms ++ ns)) → Prints P xs → Prints Q ys → Prints R (xs ++ ys)
Prints-append P Q R xs ys joins h k = record {
  marks = h.marks ++ k.marks;
  marked = IsMarked-append xs ys h.marks k.marks h.marked k.marked;
  is = joins h.marks k.marks h.is k.is;
  line = IsLine-append xs ys h.line k.line;
}

pub Prints-weaker : (P Q : List MarkedByte → Type 0) (bytes : List ℕ) → ((marks : List MarkedByte) → P marks → Q marks) → Prints P bytes → Prints Q bytes
Prints-weaker P Q bytes weaker h = record { marks = h.marks; marked = h.marked; is = weaker h.marks h.is; line = h.line }

pub Prints-nil : (P : List MarkedByte → Type 0) → P [] → Prints P []
Prints-nil P is = record { marks = []; marked = IsMarked-nil; is = is; line = IsLine-nil }

-- these marks and no others
abbrev pub Are : List MarkedByte → List MarkedByte → Type 0
Are wanted marks = marks ≡ wanted

pub Prints-sign : (byte : ℕ) → byte < 128 → (byte == 10) ≡ false → (byte == 13) ≡ false → (byte == 92) ≡ false → Prints (Are (bare byte ∷ [])) (byte ∷ [])
Prints-sign byte low no_feed no_return no_backslash = record {
  marks = bare byte ∷ [];
  marked = IsMarked-sign byte no_backslash;
  is = refl;
  line = record { utf8 = IsUtf8-byte byte [] low IsUtf8-nil; no_line_feed = rw no_feed refl; no_return = rw no_return refl };
}

-- one blank or more
pub record IsGap (marks : List MarkedByte) : Type 0 where
  pub some : 0 < length marks
  pub blank : AreBlanks marks

pub prints_space : Prints IsGap (codes " ")
prints_space =
    Prints-weaker (Are (bare 32 ∷ [])) IsGap (32 ∷ [])
    (λ marks is. subst IsGap (sym is) (record { some = omega arith; blank = All-cons (λ mark. is_space mark ≡ true) (bare 32) [] refl (All-nil (λ mark. is_space mark ≡ true)) }))
    (Prints-sign 32 (omega arith) refl refl refl)

-- ---- bytes, each behind a backslash or not

-- the mark of a byte, where a test says which bytes are escaped
abbrev pub mark_by : (ℕ → Bool) → ℕ → MarkedByte
mark_by is_special byte = record { byte = byte; is_escaped = is_special byte }

-- the test is for all that has to be escaped, and for nothing that has no letter
pub record IsEscaping (is_special : ℕ → Bool) : Type 0 where
  pub letters : (byte : ℕ) → is_special byte ≡ true → (nat_lt byte 128 && (meant (letter_of byte) == byte)) ≡ true
  pub backslash : is_special 92 ≡ true
  pub line_feed : is_special 10 ≡ true

-- a byte that fails a test is none that passes it
pub other_byte : (p : ℕ → Bool) (byte one : ℕ) → p one ≡ true → p byte ≡ false → (byte == one) ≡ false
other_byte p byte one passes fails =
    false_from_ne_true (byte == one) (λ same. both_ways (p byte) fails (subst (λ (n : ℕ). p n ≡ true) (sym (eqb-true byte one same)) passes))

pub spellable_by : (is_special : ℕ → Bool) → IsEscaping is_special → (byte : ℕ) → is_spellable (mark_by is_special byte) ≡ true
spellable_by is_special h byte =
    elim (cases_Bool (is_special byte)) [
      | inl passes ↦ rw passes (h.letters byte passes)
      | inr fails ↦ rw fails (not_from_false _ (or_from _ _ (other_byte is_special byte 92 h.backslash fails) (other_byte is_special byte 10 h.line_feed fails)))
    ]

pub read_as-map : (is_special : ℕ → Bool) (text : List ℕ) → read_as (map (mark_by is_special) text) ≡ text
read_as-map is_special [] = refl
read_as-map is_special (byte ∷ text) = ap (λ l. byte ∷ l) (read_as-map is_special text)

spelled-map : (is_special : ℕ → Bool) (text : List ℕ) → spelled (map (mark_by is_special) text) ≡ flat_map (λ byte. spelled_byte (is_special byte) byte) text
spelled-map is_special [] = refl
spelled-map is_special (byte ∷ text) = ap (λ l. spelled_byte (is_special byte) byte ++ l) (spelled-map is_special text)

pub AllPass-map : (p : MarkedByte → Bool) (f : ℕ → MarkedByte) → ((byte : ℕ) → p (f byte) ≡ true) → (text : List ℕ) → AllPass p (map f text)
AllPass-map p f passes [] = All-nil (λ mark. p mark ≡ true)
AllPass-map p f passes (byte ∷ text) = All-cons (λ mark. p mark ≡ true) (f byte) (map f text) (passes byte) (AllPass-map p f passes text)

-- what is written for marks, where these can be read back
pub prints_marks : (P : List MarkedByte → Type 0) (marks : List MarkedByte) (bytes : List ℕ) → spelled marks ≡ bytes → AllPass is_spellable marks → IsText (read_as marks) → P marks → Prints P bytes
prints_marks P marks bytes same each text is = record {
  marks = marks;
  marked = subst (λ (l : List ℕ). IsMarked l marks) same (IsMarked-spelled marks each);
  is = is;
  line = subst IsLine same (IsLine-spelled marks each text);
}

pub prints_by : (P : List MarkedByte → Type 0) (is_special : ℕ → Bool) (text : List ℕ) → IsEscaping is_special → IsText text → P (map (mark_by is_special) text) → Prints P (flat_map (λ byte. spelled_byte (is_special byte) byte) text)
prints_by P is_special text h is parts =
    prints_marks P (map (mark_by is_special) text) _ (spelled-map is_special text) (AllPass-map is_spellable (mark_by is_special) (spellable_by is_special h) text)
    (subst IsText (sym (read_as-map is_special text)) is) parts

not_and : (x y : Bool) → (y ≡ true → x ≡ true) → not (not x && y) ≡ true
not_and true y h = refl
not_and false true h = absurd (let e = h refl in cc)
not_and false false h = refl

-- where each byte of a class is escaped, no mark of the class stands by itself
pub never_bare : (class is_special : ℕ → Bool) → ((byte : ℕ) → class byte ≡ true → is_special byte ≡ true) → (byte : ℕ) → not (is_bare class (mark_by is_special byte)) ≡ true
never_bare class is_special h byte = not_and (is_special byte) (class byte) (h byte)

-- the mark is none with which an ending begins
abbrev pub is_inner : MarkedByte → Bool
is_inner mark = not (is_bare (is_one_of (codes "!{")) mark)

abbrev pub is_no_space : MarkedByte → Bool
is_no_space mark = not (is_space mark)

pub blank_cases : (p : ℕ → Bool) (byte : ℕ) → p 32 ≡ true → p 9 ≡ true → is_blank byte ≡ true → p byte ≡ true
blank_cases p byte space tab is =
    elim (or_cases (byte == 32) (byte == 9) is) [
      | inl same ↦ subst (λ (n : ℕ). p n ≡ true) (sym (eqb-true byte 32 same)) space
      | inr same ↦ subst (λ (n : ℕ). p n ≡ true) (sym (eqb-true byte 9 same)) tab
    ]

-- ---- words

pub IsEscaping-word : IsEscaping is_escaped_in_word
unfolding is_escaped_in_word
IsEscaping-word = record {
  letters = λ byte is. is_one_of-passes (λ one. nat_lt one 128 && (meant (letter_of one) == one)) (10 ∷ 9 ∷ codes " \\\",[]{}!") byte refl is;
  backslash = refl;
  line_feed = refl;
}

pub word_class : (byte : ℕ) → (is_blank byte || is_one_of (codes "{![\"") byte) ≡ true → is_escaped_in_word byte ≡ true
unfolding is_escaped_in_word
word_class byte is =
    elim (or_cases (is_blank byte) (is_one_of (codes "{![\"") byte) is) [
      | inl blank ↦ blank_cases is_escaped_in_word byte refl refl blank
      | inr sign ↦ is_one_of-passes is_escaped_in_word (codes "{![\"") byte refl sign
    ]

word_holds : (bytes : List ℕ) → list_all is_escaped_in_word bytes ≡ true → (byte : ℕ) → is_one_of bytes byte ≡ true → is_escaped_in_word byte ≡ true
word_holds bytes all byte is = is_one_of-passes is_escaped_in_word bytes byte all is

-- the marks of a word that stands by itself wherever it is printed
pub record IsBound (word : List ℕ) (marks : List MarkedByte) : Type 0 where
  pub one_word : IsWord marks word
  pub entry : AllPass is_entry_mark marks
  pub quoted : AllPass is_quoted_mark marks
  pub unspaced : AllPass is_no_space marks
  pub inner : AllPass is_inner marks

pub some-map : (f : ℕ → MarkedByte) (text : List ℕ) → 0 < length text → 0 < length (map f text)
some-map f [] h = absurd (omega arith)
some-map f (byte ∷ text) h = omega arith

pub prints_bound : (word : List ℕ) → IsWordText word → Prints (IsBound word) (word_text word)
unfolding is_escaped_in_word
prints_bound word h =
    let each : (p : MarkedByte → Bool) → ((byte : ℕ) → p (mark_by is_escaped_in_word byte) ≡ true) → AllPass p (map (mark_by is_escaped_in_word) word) = λ p passes. AllPass-map p (mark_by is_escaped_in_word) passes word in
    prints_by (IsBound word) is_escaped_in_word word IsEscaping-word h.text (record {
      one_word = record {
        some = some-map (mark_by is_escaped_in_word) word h.some;
        each = each is_word_mark (never_bare (λ byte. is_blank byte || is_one_of (codes "{![\"") byte) is_escaped_in_word word_class);
        read = read_as-map is_escaped_in_word word;
      };
      entry = each is_entry_mark (never_bare (is_one_of (codes ",]\"")) is_escaped_in_word (word_holds (codes ",]\"") refl));
      quoted = each is_quoted_mark (never_bare (is_one_of (codes "\"")) is_escaped_in_word (word_holds (codes "\"") refl));
      unspaced = each is_no_space (never_bare is_blank is_escaped_in_word (λ byte is. blank_cases is_escaped_in_word byte refl refl is));
      inner = each is_inner (never_bare (is_one_of (codes "!{")) is_escaped_in_word (word_holds (codes "!{") refl));
    })

pub prints_word : (word : List ℕ) → IsWordText word → Prints (λ marks. IsWord marks word) (word_text word)
prints_word word h = Prints-weaker (IsBound word) (λ marks. IsWord marks word) (word_text word) (λ marks is. is.one_word) (prints_bound word h)

-- marks without a space have none at an end
pub trimmed_unspaced : (marks : List MarkedByte) → AllPass is_no_space marks → AreTrimmed marks
trimmed_unspaced marks each = record {
  begins = λ mark rest whole. not-true (is_space mark) (All-head (λ one. is_no_space one ≡ true) mark rest (subst (AllPass is_no_space) whole each));
  ends = λ mark rest whole. not-true (is_space mark) (last_of rest mark (subst (AllPass is_no_space) whole each));
}
  where
    last_of : (rest : List MarkedByte) (mark : MarkedByte) → AllPass is_no_space (rest ++ mark ∷ []) → is_no_space mark ≡ true
    last_of [] mark each = All-head (λ one. is_no_space one ≡ true) mark [] each
    last_of (first ∷ rest) mark each = last_of rest mark (All-tail (λ one. is_no_space one ≡ true) first (rest ++ mark ∷ []) each)

-- ---- no ending begins inside

ending_begins : (marks : List MarkedByte) (qualifiers : List Qualifier) → IsEnding marks qualifiers → (mark : MarkedByte) (rest : List MarkedByte) → marks ≡ mark ∷ rest → is_bare (is_one_of (codes "!{")) mark ≡ true
ending_begins _ _ (grammar.IsEnding.bare _ grammar.IsComment.nothing) mark rest whole = absurd (let e : [] ≡ mark ∷ rest = whole in cc)
ending_begins _ _ (grammar.IsEnding.bare _ (grammar.IsComment.comment more)) mark rest whole =
    let same : exclamation ≡ mark = cc in subst (λ (one : MarkedByte). is_bare (is_one_of (codes "!{")) one ≡ true) same refl
ending_begins _ _ (grammar.IsEnding.qualified block blanks comment _ is blank commented) mark rest whole =
    let begun : block_open ∷ ((is.before ++ is.inside ++ is.behind ++ block_close ∷ []) ++ blanks ++ comment) ≡ mark ∷ rest = ap (λ l. l ++ blanks ++ comment) (sym is.whole) ∙ whole in
    let same : block_open ≡ mark = cc in subst (λ (one : MarkedByte). is_bare (is_one_of (codes "!{")) one ≡ true) same refl

pub free_inner : (marks behind : List MarkedByte) → AllPass is_inner marks → IsFree marks behind
free_inner marks behind each before [] qualifiers whole some ending = omega arith
free_inner marks behind each before (mark ∷ after) qualifiers whole some ending =
    both_ways (is_bare (is_one_of (codes "!{")) mark)
    (not-true _ (inside before mark after (subst (AllPass is_inner) whole each)))
    (ending_begins (mark ∷ (after ++ behind)) qualifiers ending mark (after ++ behind) refl)
  where
    inside : (before : List MarkedByte) (mark : MarkedByte) (after : List MarkedByte) → AllPass is_inner (before ++ mark ∷ after) → is_inner mark ≡ true
    inside [] mark after each = All-head (λ one. is_inner one ≡ true) mark after each
    inside (first ∷ before) mark after each = inside before mark after (All-tail (λ one. is_inner one ≡ true) first (before ++ mark ∷ after) each)
