-- Values and whole lines, as they are printed: a clause whose parts are as they have to be is spelled by its printed line.
use Rattle.std.proofs.Common.{◌≡◌, ℕ, ◌<◌, ◌≤◌, ◌==◌, Bool, true, false, not, ◌&&◌, ◌||◌, nat_lt, List, [], ◌∷◌, ◌++◌, Option, None, Some, codes, length, refl, sym, ap, subst, ◌∙◌, inl, inr, ⊎_elim, append_assoc, append-nil, arith}
use Rattle.std.specs.List.{All, AllPass, list_all}
use Rattle.std.proofs.lemmas.Bool.{agree_below_at, and_cases, and_from, and_parts, both_ways, cases_lt, ltb-true, not-false, not-true, or_from, or_parts}
use Rattle.std.proofs.lemmas.Bool.Decides.{nat_tests}
use Rattle.std.proofs.lemmas.List.Elements.{All-append, All-cons, All-head, All-nil, All-tail}
use Rattle.obo_lexer.specs.Tokens.{is_blank}
use Rattle.obo_tags.specs.declared.kind.FrameKind.{FrameKind}
use Rattle.obo_tags.specs.declared.kind.ValueShape.{ValueShape}
use Rattle.obo_tags.specs.declared.kind.ValueShape.TheVariants as shapes
use Rattle.obo_clause.specs.declared.clause.Clause.{Clause}
use Rattle.obo_clause.specs.declared.clause.Qualifier.{Qualifier}
use Rattle.obo_clause.specs.declared.clause.Scope.{Scope}
use Rattle.obo_clause.specs.declared.clause.Scope.TheVariants as scope
use Rattle.obo_clause.specs.declared.clause.Value.{Value}
use Rattle.obo_clause.specs.declared.clause.Value.TheVariants as value
use Rattle.obo_clause.specs.declared.clause.Xref.{Xref}
use Rattle.obo_clause.specs.Grammar as grammar
use Rattle.obo_clause.specs.Grammar.{AreBlanks, IsComment, IsEnding, IsQuoted, IsWord, IsXrefList}
use Rattle.obo_clause.specs.declared.mark.MarkedByte.{MarkedByte}
use Rattle.obo_clause.specs.Marks.{marks_of}
use Rattle.rel_io.specs.Texts.{IsText, IsWordText}
use Rattle.obo_clause.specs.Fits.{FitBehind, Fits, FitsQualifier, FitsShape, FitsXref, IsRawText, IsWordOrNone}
use Rattle.clause_printer.specs.Laws.{IsLineOf}
use Rattle.clause_printer.specs.Printing.{behind_space, block_text, clause_text, comment_text, is_escaped_in_word, list_text, quoted_text, run_text, scope_text, space, type_text, value_text, word_text, xref_text}
use Rattle.obo_clause.specs.Spelled.{IsLine, IsSpelledAs}
use Rattle.obo_clause.specs.Spelling.{IsQualifiedValue, IsMoreList, IsMoreWord, IsRun, IsScoped, IsSecondWord, IsTagged, IsTypeScope, IsValue, Says, Spells, bool_word, scope_word, shape_at}
use Rattle.obo_clause.specs.Spelling as spelling
use Rattle.obo_clause.specs.Vocabulary.{exclamation, is_space, is_tag_byte}
use Rattle.clause_printer.proofs.SpelledMarks.{IsMarked, IsUtf8-byte}
use Rattle.clause_printer.proofs.PrintedParts.{Are, IsGap, IsLine-append, IsLine-nil, Prints, Prints-append, Prints-nil, Prints-sign, Prints-weaker, free_inner, prints_space, prints_word, trimmed_unspaced}
use Rattle.clause_printer.proofs.PrintedRuns.{IsRunAnywhere, IsXrefAt, prints_list, prints_quoted, prints_run, prints_xref}
use Rattle.clause_printer.proofs.PrintedBlocks.{prints_ending}

-- ---- bytes of ASCII that stand in lines

unfoldable pub is_line_byte : ℕ → Bool
is_line_byte byte = nat_lt byte 128 && not (byte == 10 || byte == 13)

pub IsLine-constant : (bytes : List ℕ) → list_all is_line_byte bytes ≡ true → IsLine bytes
unfolding is_line_byte
IsLine-constant [] all = IsLine-nil
IsLine-constant (byte ∷ bytes) all =
    let parts = and_parts (is_line_byte byte) (list_all is_line_byte bytes) all in
    let here = and_parts (nat_lt byte 128) (not (byte == 10 || byte == 13)) parts.0 in
    let signs = or_parts (byte == 10) (byte == 13) (not-true (byte == 10 || byte == 13) here.1) in
    let rest = IsLine-constant bytes parts.1 in
    record {
      utf8 = IsUtf8-byte byte bytes (ltb-true byte 128 here.0) rest.utf8;
      no_line_feed = or_from _ _ signs.0 rest.no_line_feed;
      no_return = or_from _ _ signs.1 rest.no_return;
    }

list_all-from : (p q : ℕ → Bool) → ((byte : ℕ) → p byte ≡ true → q byte ≡ true) → (bytes : List ℕ) → AllPass p bytes → list_all q bytes ≡ true
list_all-from p q implies [] all = refl
list_all-from p q implies (byte ∷ bytes) all =
    and_from (q byte) (list_all q bytes) (implies byte (All-head (λ one. p one ≡ true) byte bytes all))
    (list_all-from p q implies bytes (All-tail (λ one. p one ≡ true) byte bytes all))

tag_byte-high : (byte : ℕ) → 128 ≤ byte → is_tag_byte byte ≡ false
tag_byte-high byte high = grind (arith, nat_tests)

tag_byte : (byte : ℕ) → is_tag_byte byte ≡ true → is_line_byte byte ≡ true
unfolding is_line_byte
tag_byte byte is =
    elim (cases_lt byte 128) [
      | inl low ↦
          ⊎_elim (λ fails. absurd (both_ways _ fails is)) (not-false (is_line_byte byte))
          (and_cases (is_tag_byte byte) (not (is_line_byte byte)) (agree_below_at (λ n. is_tag_byte n && not (is_line_byte n)) (λ n. false) 128 byte refl low))
      | inr high ↦ absurd (both_ways _ (tag_byte-high byte high) is)
    ]

tag_line : (tag : List ℕ) → AllPass is_tag_byte tag → IsLine tag
tag_line tag each = IsLine-constant tag (list_all-from is_tag_byte is_line_byte tag_byte tag each)

-- ---- scopes and truth values are words without escapes

pub text_of_line : (bytes : List ℕ) → IsLine bytes → IsText bytes
text_of_line bytes is = record { utf8 = is.utf8; no_return = is.no_return }

prints_constant : (word : List ℕ) → 0 < length word → list_all is_line_byte word ≡ true → word_text word ≡ word → Prints (λ marks. IsWord marks word) word
prints_constant word some all same =
    subst (Prints (λ marks. IsWord marks word)) same (prints_word word (record { some = some; text = text_of_line word (IsLine-constant word all) }))

prints_scope : (one : Scope) → Prints (λ marks. IsWord marks (scope_word one)) (scope_word one)
unfolding is_line_byte is_escaped_in_word
prints_scope scope.Exact = prints_constant (codes "EXACT") (omega arith) refl refl
prints_scope scope.Broad = prints_constant (codes "BROAD") (omega arith) refl refl
prints_scope scope.Narrow = prints_constant (codes "NARROW") (omega arith) refl refl
prints_scope scope.Related = prints_constant (codes "RELATED") (omega arith) refl refl

prints_truth : (truth : Bool) → Prints (λ marks. IsWord marks (bool_word truth)) (bool_word truth)
unfolding is_line_byte is_escaped_in_word
prints_truth true = prints_constant (codes "true") (omega arith) refl refl
prints_truth false = prints_constant (codes "false") (omega arith) refl refl

-- ---- one part behind another

-- marks of two kinds, one behind the other
record Then (P Q : List MarkedByte → Type 0) (marks : List MarkedByte) : Type 0 where
  first : List MarkedByte
  second : List MarkedByte
  whole : marks ≡ first ++ second
  left : P first
  right : Q second

then_from : (P Q : List MarkedByte → Type 0) (ms ns : List MarkedByte) → P ms → Q ns → Then P Q (ms ++ ns)
then_from P Q ms ns left right = record { first = ms; second = ns; whole = refl; left = left; right = right }

prints_then : (P Q : List MarkedByte → Type 0) (xs ys : List ℕ) → Prints P xs → Prints Q ys → Prints (Then P Q) (xs ++ ys)
prints_then P Q xs ys h k = Prints-append P Q (Then P Q) xs ys (then_from P Q) h k

prints_three : (P Q S R : List MarkedByte → Type 0) (xs ys zs : List ℕ) → ((a b c : List MarkedByte) → P a → Q b → S c → R (a ++ b ++ c)) → Prints P xs → Prints Q ys → Prints S zs → Prints R (xs ++ ys ++ zs)
prints_three P Q S R xs ys zs joins h k l =
    Prints-append (Then P Q) S R (xs ++ ys) zs
    (λ ms ns two s. subst (λ (m : List MarkedByte). R (m ++ ns)) (sym two.whole) (joins two.first two.second ns two.left two.right s))
    (prints_then P Q xs ys h k) l

prints_four : (P Q S U R : List MarkedByte → Type 0) (xs ys zs us : List ℕ) → ((a b c d : List MarkedByte) → P a → Q b → S c → U d → R (a ++ b ++ c ++ d)) → Prints P xs → Prints Q ys → Prints S zs → Prints U us → Prints R (xs ++ ys ++ zs ++ us)
prints_four P Q S U R xs ys zs us joins h k l m =
    prints_three (Then P Q) S U R (xs ++ ys) zs us
    (λ a c d two s u. subst (λ (n : List MarkedByte). R (n ++ c ++ d)) (sym two.whole) (joins two.first two.second c d two.left two.right s u))
    (prints_then P Q xs ys h k) l m

-- ---- values

-- the marks are the value, whatever stands behind them
record IsAnywhere (shape : ValueShape) (one : Value) (marks : List MarkedByte) : Type 0 where
  is : (behind : List MarkedByte) → IsValue behind shape marks one

abbrev Word : List ℕ → List MarkedByte → Type 0
Word word marks = IsWord marks word

abbrev Quoted : List ℕ → List MarkedByte → Type 0
Quoted text marks = IsQuoted marks text

prints_words : (shape : ValueShape) (one : Value) (first second : List ℕ) → ((behind a b c : List MarkedByte) → IsWord a first → 0 < length b → AreBlanks b → IsWord c second → IsValue behind shape (a ++ b ++ c) one) → IsWordText first → IsWordText second → Prints (IsAnywhere shape one) (word_text first ++ space ++ word_text second)
prints_words shape one first second value h k =
    prints_three (Word first) IsGap (Word second) (IsAnywhere shape one) (word_text first) space (word_text second)
    (λ a b c left gap right. record { is = λ behind. value behind a b c left gap.some gap.blank right })
    (prints_word first h) prints_space (prints_word second k)

prints_more_list : (xrefs : List Xref) → All FitsXref xrefs → Prints (λ marks. IsMoreList marks xrefs) (space ++ list_text xrefs)
prints_more_list xrefs all =
    Prints-append IsGap (λ marks. IsXrefList marks xrefs) (λ marks. IsMoreList marks xrefs) space (list_text xrefs)
    (λ a b gap list. spelling.IsMoreList.list a b xrefs gap.blank list) prints_space (prints_list xrefs all)

prints_more_word : (word : List ℕ) → IsWordText word → Prints (λ marks. IsMoreWord marks (Some word)) (space ++ word_text word)
prints_more_word word h =
    Prints-append IsGap (Word word) (λ marks. IsMoreWord marks (Some word)) space (word_text word)
    (λ a b gap one. spelling.IsMoreWord.word a b word gap.blank one) prints_space (prints_word word h)

prints_type : (type : Option (List ℕ)) → IsWordOrNone type → Prints (λ marks. IsSecondWord marks type) (type_text type)
prints_type None h = Prints-nil (λ marks. IsSecondWord marks None) spelling.IsSecondWord.nothing
prints_type (Some word) h =
    Prints-append IsGap (Word word) (λ marks. IsSecondWord marks (Some word)) space (word_text word)
    (λ a b gap one. spelling.IsSecondWord.word a b word gap.some gap.blank one) prints_space (prints_word word h)

prints_scoped : (one : Scope) (type : Option (List ℕ)) → IsWordOrNone type → Prints (λ marks. IsScoped marks one type) (space ++ scope_word one ++ type_text type)
prints_scoped one type h =
    prints_three IsGap (Word (scope_word one)) (λ marks. IsSecondWord marks type) (λ marks. IsScoped marks one type) space (scope_word one) (type_text type)
    (λ a b c gap word second. spelling.IsScoped.scoped a b c one type gap.blank word second) prints_space (prints_scope one) (prints_type type h)

prints_type_scope : (one : Option Scope) → Prints (λ marks. IsTypeScope marks one) (scope_text one)
prints_type_scope None = Prints-nil (λ marks. IsTypeScope marks None) spelling.IsTypeScope.nothing
prints_type_scope (Some one) =
    Prints-append IsGap (Word (scope_word one)) (λ marks. IsTypeScope marks (Some one)) space (scope_word one)
    (λ a b gap word. spelling.IsTypeScope.scoped a b one gap.blank word) prints_space (prints_scope one)

prints_def : (text : List ℕ) (xrefs : List Xref) → IsText text → All FitsXref xrefs → Prints (IsAnywhere shapes.Def (value.Def text xrefs)) (value_text (value.Def text xrefs))
prints_def text xrefs h all =
    Prints-append (Quoted text) (λ marks. IsMoreList marks xrefs) (IsAnywhere shapes.Def (value.Def text xrefs)) (quoted_text text) (space ++ list_text xrefs)
    (λ a b quoted more. record { is = λ behind. spelling.IsValue.definition a b text xrefs quoted more })
    (prints_quoted text h) (prints_more_list xrefs all)

prints_synonym : (text : List ℕ) (one : Scope) (type : Option (List ℕ)) (xrefs : List Xref) → IsText text → IsWordOrNone type → All FitsXref xrefs → Prints (IsAnywhere shapes.Synonym (value.Synonym text one type xrefs)) (value_text (value.Synonym text one type xrefs))
prints_synonym text one type xrefs h k all =
    prints_three (Quoted text) (λ marks. IsScoped marks one type) (λ marks. IsMoreList marks xrefs) (IsAnywhere shapes.Synonym (value.Synonym text one type xrefs))
    (quoted_text text) (space ++ scope_word one ++ type_text type) (space ++ list_text xrefs)
    (λ a b c quoted scoped more. record { is = λ behind. spelling.IsValue.synonym a b c text one type xrefs quoted scoped more })
    (prints_quoted text h) (prints_scoped one type k) (prints_more_list xrefs all)

xref_anywhere : (xref : Xref) (marks : List MarkedByte) → IsXrefAt xref marks → IsAnywhere shapes.XrefShape (value.XrefValue xref) marks
xref_anywhere xref marks is =
    let blanks = is.labelled.blanks in
    let more = is.labelled.more in
    record {
      is = λ behind.
          subst (λ (l : List MarkedByte). IsValue behind shapes.XrefShape l (value.XrefValue xref)) (append_assoc is.id blanks more ∙ ap (λ l. is.id ++ l) (sym is.labelled.whole) ∙ sym is.whole)
          (spelling.IsValue.xref is.id blanks more xref is.bound.one_word.some is.bound.quoted
          (record { free = free_inner is.id (blanks ++ more ++ behind) is.bound.inner; trimmed = trimmed_unspaced is.id is.bound.unspaced; read = is.bound.one_word.read })
          is.labelled.blank is.labelled.labelled);
    }

prints_literal : (relation text datatype : List ℕ) → IsWordText relation → IsText text → IsWordText datatype → Prints (IsAnywhere shapes.Property (value.Literal relation text datatype)) (value_text (value.Literal relation text datatype))
prints_literal relation text datatype h k l =
    prints_four (Word relation) IsGap (Quoted text) (λ marks. IsMoreWord marks (Some datatype)) (IsAnywhere shapes.Property (value.Literal relation text datatype))
    (word_text relation) space (quoted_text text) (space ++ word_text datatype)
    (λ a b c d word gap quoted more. record { is = λ behind. spelling.IsValue.literal a b c d relation text (Some datatype) word gap.blank quoted more })
    (prints_word relation h) prints_space (prints_quoted text k) (prints_more_word datatype l)

prints_subset : (id text : List ℕ) → IsWordText id → IsText text → Prints (IsAnywhere shapes.SubsetDef (value.SubsetDef id text)) (value_text (value.SubsetDef id text))
prints_subset id text h k =
    prints_three (Word id) IsGap (Quoted text) (IsAnywhere shapes.SubsetDef (value.SubsetDef id text)) (word_text id) space (quoted_text text)
    (λ a b c word gap quoted. record { is = λ behind. spelling.IsValue.subset a b c id text word gap.blank quoted })
    (prints_word id h) prints_space (prints_quoted text k)

prints_synonym_type : (id text : List ℕ) (one : Option Scope) → IsWordText id → IsText text → Prints (IsAnywhere shapes.SynonymDef (value.SynonymDef id text one)) (value_text (value.SynonymDef id text one))
prints_synonym_type id text one h k =
    prints_four (Word id) IsGap (Quoted text) (λ marks. IsTypeScope marks one) (IsAnywhere shapes.SynonymDef (value.SynonymDef id text one))
    (word_text id) space (quoted_text text) (scope_text one)
    (λ a b c d word gap quoted scoped. record { is = λ behind. spelling.IsValue.synonym_type a b c d id text one word gap.blank quoted scoped })
    (prints_word id h) prints_space (prints_quoted text k) (prints_type_scope one)

prints_value : (shape : ValueShape) (one : Value) → (shape ≡ shapes.Raw → ⊥) → FitsShape shape one → Prints (IsAnywhere shape one) (value_text one)
prints_value shapes.Raw _ not_raw fits = absurd (not_raw refl)
prints_value shapes.Text (value.Text text) not_raw fits =
    Prints-weaker (IsRunAnywhere text) (IsAnywhere shapes.Text (value.Text text)) (run_text true text)
    (λ marks runs. record { is = λ behind. spelling.IsValue.text marks text (runs.run behind) }) (prints_run text fits)
prints_value shapes.Id (value.Id word) not_raw fits =
    Prints-weaker (Word word) (IsAnywhere shapes.Id (value.Id word)) (word_text word)
    (λ marks one. record { is = λ behind. spelling.IsValue.id marks word one }) (prints_word word fits)
prints_value shapes.Pair (value.Pair first second) not_raw fits =
    prints_words shapes.Pair (value.Pair first second) first second (λ behind a b c left some blank right. spelling.IsValue.pair a b c first second left some blank right) fits.0 fits.1
prints_value shapes.IdOrPair (value.Id word) not_raw fits =
    Prints-weaker (Word word) (IsAnywhere shapes.IdOrPair (value.Id word)) (word_text word)
    (λ marks one. record { is = λ behind. spelling.IsValue.class marks word one }) (prints_word word fits)
prints_value shapes.IdOrPair (value.Pair first second) not_raw fits =
    prints_words shapes.IdOrPair (value.Pair first second) first second (λ behind a b c left some blank right. spelling.IsValue.restriction a b c first second left some blank right) fits.0 fits.1
prints_value shapes.Bool (value.Bool truth) not_raw fits =
    Prints-weaker (Word (bool_word truth)) (IsAnywhere shapes.Bool (value.Bool truth)) (bool_word truth)
    (λ marks one. record { is = λ behind. spelling.IsValue.truth marks truth one }) (prints_truth truth)
prints_value shapes.Def (value.Def text xrefs) not_raw fits = prints_def text xrefs fits.0 fits.1
prints_value shapes.Synonym (value.Synonym text one type xrefs) not_raw fits = prints_synonym text one type xrefs fits.0 fits.1 fits.2
prints_value shapes.XrefShape (value.XrefValue xref) not_raw fits =
    Prints-weaker (IsXrefAt xref) (IsAnywhere shapes.XrefShape (value.XrefValue xref)) (xref_text xref) (xref_anywhere xref) (prints_xref xref fits)
prints_value shapes.Property (value.Literal relation text datatype) not_raw fits = prints_literal relation text datatype fits.0 fits.1 fits.2
prints_value shapes.Property (value.Link relation target) not_raw fits =
    prints_words shapes.Property (value.Link relation target) relation target (λ behind a b c left some blank right. spelling.IsValue.link a b c relation target left some blank right) fits.0 fits.1
prints_value shapes.SubsetDef (value.SubsetDef id text) not_raw fits = prints_subset id text fits.0 fits.1
prints_value shapes.SynonymDef (value.SynonymDef id text one) not_raw fits = prints_synonym_type id text one fits.0 fits.1
prints_value _ _ not_raw fits = absurd fits

-- ---- what stands behind the colon

-- blanks, and marks of a kind
record IsLed (P : List MarkedByte → Type 0) (marks : List MarkedByte) : Type 0 where
  before : List MarkedByte
  main : List MarkedByte
  whole : marks ≡ before ++ main
  blank : AreBlanks before
  is : P main

prints_led : (P : List MarkedByte → Type 0) (bytes : List ℕ) → Prints P bytes → Prints (IsLed P) (behind_space bytes)
prints_led P [] h =
    Prints-weaker P (IsLed P) [] (λ marks is. record { before = []; main = marks; whole = refl; blank = All-nil (λ mark. is_space mark ≡ true); is = is }) h
prints_led P (byte ∷ bytes) h =
    Prints-append IsGap P (IsLed P) space (byte ∷ bytes)
    (λ ms ns gap is. record { before = ms; main = ns; whole = refl; blank = gap.blank; is = is }) prints_space h

-- the bytes are a value with its qualifiers, and may stand in a line
record IsQualifiedLine (shape : ValueShape) (bytes : List ℕ) (one : Value) (qualifiers : List Qualifier) : Type 0 where
  valued : IsQualifiedValue shape bytes one qualifiers
  line : IsLine bytes

abbrev content_text : Value → List Qualifier → List ℕ
content_text one qualifiers = behind_space (value_text one) ++ behind_space (block_text qualifiers)

whole_marks : (bytes : List ℕ) (marks before main between ending : List MarkedByte) (head tail : List MarkedByte) → IsMarked bytes marks → marks ≡ head ++ tail → head ≡ before ++ main → tail ≡ between ++ ending → marks_of bytes ≡ before ++ main ++ between ++ ending
whole_marks bytes marks before main between ending head tail marked whole is behind =
    ap marks_of (sym (append-nil bytes)) ∙ marked.read [] ∙ append-nil marks ∙ whole ∙ ap (λ l. l ++ tail) is ∙ ap (λ l. (before ++ main) ++ l) behind
    ∙ sym (append_assoc (before ++ main) between ending)

shaped_content : (shape : ValueShape) (one : Value) (qualifiers : List Qualifier) → (shape ≡ shapes.Raw → ⊥) → FitsShape shape one → All FitsQualifier qualifiers → IsQualifiedLine shape (content_text one qualifiers) one qualifiers
shaped_content shape one qualifiers not_raw fits all =
    let printed = prints_then (IsLed (IsAnywhere shape one)) (IsLed (λ marks. IsEnding marks qualifiers)) (behind_space (value_text one)) (behind_space (block_text qualifiers))
    (prints_led (IsAnywhere shape one) (value_text one) (prints_value shape one not_raw fits))
    (prints_led (λ marks. IsEnding marks qualifiers) (block_text qualifiers) (prints_ending qualifiers all)) in
    let left = printed.is.left in
    let right = printed.is.right in
    record {
      valued =
          spelling.IsQualifiedValue.shaped shape (content_text one qualifiers) left.before left.main right.before right.main one qualifiers
          (whole_marks (content_text one qualifiers) printed.marks left.before left.main right.before right.main printed.is.first printed.is.second printed.marked printed.is.whole left.whole right.whole)
          left.blank (left.is.is (right.before ++ right.main)) right.blank right.is;
      line = printed.line;
    }

raw_content : (text : List ℕ) → IsRawText text → IsQualifiedLine shapes.Raw (content_text (value.Raw text) []) (value.Raw text) []
raw_content [] is = record {
  valued = spelling.IsQualifiedValue.raw [] [] [] (All-nil (λ byte. is_blank byte ≡ true)) is.trimmed (All-nil (λ byte. is_blank byte ≡ true));
  line = IsLine-nil;
}
raw_content (byte ∷ text) is = record {
  valued =
      spelling.IsQualifiedValue.raw space (byte ∷ text) [] (All-cons (λ one. is_blank one ≡ true) 32 [] refl (All-nil (λ one. is_blank one ≡ true))) is.trimmed (All-nil (λ one. is_blank one ≡ true));
  line = IsLine-append (space ++ byte ∷ text) [] (IsLine-append space (byte ∷ text) prints_space.line is.line) IsLine-nil;
}

printed_content : (shape : ValueShape) (one : Value) (qualifiers : List Qualifier) → FitsShape shape one → FitBehind shape qualifiers → IsQualifiedLine shape (content_text one qualifiers) one qualifiers
printed_content shapes.Raw (value.Raw text) qualifiers fits behind =
    subst (λ (l : List Qualifier). IsQualifiedLine shapes.Raw (content_text (value.Raw text) l) (value.Raw text) l) (sym behind) (raw_content text fits)
printed_content shapes.Raw _ qualifiers fits behind = absurd fits
printed_content shapes.Text one qualifiers fits behind = shaped_content shapes.Text one qualifiers (λ same. absurd (cc)) fits behind
printed_content shapes.Id one qualifiers fits behind = shaped_content shapes.Id one qualifiers (λ same. absurd (cc)) fits behind
printed_content shapes.Pair one qualifiers fits behind = shaped_content shapes.Pair one qualifiers (λ same. absurd (cc)) fits behind
printed_content shapes.IdOrPair one qualifiers fits behind = shaped_content shapes.IdOrPair one qualifiers (λ same. absurd (cc)) fits behind
printed_content shapes.Bool one qualifiers fits behind = shaped_content shapes.Bool one qualifiers (λ same. absurd (cc)) fits behind
printed_content shapes.Def one qualifiers fits behind = shaped_content shapes.Def one qualifiers (λ same. absurd (cc)) fits behind
printed_content shapes.Synonym one qualifiers fits behind = shaped_content shapes.Synonym one qualifiers (λ same. absurd (cc)) fits behind
printed_content shapes.XrefShape one qualifiers fits behind = shaped_content shapes.XrefShape one qualifiers (λ same. absurd (cc)) fits behind
printed_content shapes.Property one qualifiers fits behind = shaped_content shapes.Property one qualifiers (λ same. absurd (cc)) fits behind
printed_content shapes.SubsetDef one qualifiers fits behind = shaped_content shapes.SubsetDef one qualifiers (λ same. absurd (cc)) fits behind
printed_content shapes.SynonymDef one qualifiers fits behind = shaped_content shapes.SynonymDef one qualifiers (λ same. absurd (cc)) fits behind

-- ---- lines

colon_line : IsLine (58 ∷ [])
unfolding is_line_byte
colon_line = IsLine-constant (58 ∷ []) refl

pub printed_line : (kind : FrameKind) (first : Bool) (clause : Clause) → Fits kind first clause → IsLineOf kind first (clause_text clause) clause
unfolding clause_text
printed_line kind first clause fits =
    let behind = printed_content (shape_at kind first clause.tag) clause.value clause.qualifiers fits.value fits.qualifiers in
    let rest = content_text clause.value clause.qualifiers in
    let spells : Spells kind first (clause_text clause) clause = record {
      rest = rest;
      tagged = record {
        before = [];
        between = [];
        whole = ap (λ l. l ++ 58 ∷ rest) (sym (append-nil clause.tag));
        blank_before = All-nil (λ byte. is_blank byte ≡ true);
        some = fits.some;
        each = fits.each;
        blank_between = All-nil (λ byte. is_blank byte ≡ true);
      };
      valued = behind.valued;
    } in
    record {
      is_line = IsLine-append clause.tag (58 ∷ rest) (tag_line clause.tag fits.each) (IsLine-append (58 ∷ []) rest colon_line behind.line);
      spells = spells;
      says = spelling.Says.content clause spells;
    }

-- the printed line is a line that spells a clause whose parts are as they have to be
pub fit_is_spelled : (kind : FrameKind) (first : Bool) (clause : Clause) → Fits kind first clause → IsSpelledAs kind first clause
fit_is_spelled kind first clause fits =
    let printed = printed_line kind first clause fits in
    record { line = clause_text clause; is_line = printed.is_line; spells = printed.spells }

-- ---- a comment behind a printed line

-- blanks and a comment
record IsTail (marks : List MarkedByte) : Type 0 where
  blanks : List MarkedByte
  comment : List MarkedByte
  whole : marks ≡ blanks ++ comment
  blank : AreBlanks blanks
  is : IsComment comment

ending_goes_on : (before main ns : List MarkedByte) (qualifiers : List Qualifier) → AreBlanks before → IsEnding main qualifiers → IsTail ns → IsLed (λ marks. IsEnding marks qualifiers) ((before ++ main) ++ ns)
ending_goes_on before _ ns _ blank (grammar.IsEnding.bare _ grammar.IsComment.nothing) tail = record {
  before = before ++ tail.blanks;
  main = tail.comment;
  whole = ap (λ l. l ++ ns) (append-nil before) ∙ ap (λ l. before ++ l) tail.whole ∙ sym (append_assoc before tail.blanks tail.comment);
  blank = All-append (λ mark. is_space mark ≡ true) before tail.blanks blank tail.blank;
  is = grammar.IsEnding.bare tail.comment tail.is;
}
ending_goes_on before _ ns _ blank (grammar.IsEnding.bare _ (grammar.IsComment.comment rest)) tail = record {
  before = before;
  main = exclamation ∷ (rest ++ ns);
  whole = append_assoc before (exclamation ∷ rest) ns;
  blank = blank;
  is = grammar.IsEnding.bare (exclamation ∷ (rest ++ ns)) (grammar.IsComment.comment (rest ++ ns));
}
ending_goes_on before _ ns _ blank (grammar.IsEnding.qualified block blanks _ qualifiers is spaced grammar.IsComment.nothing) tail = record {
  before = before;
  main = block ++ (blanks ++ tail.blanks) ++ tail.comment;
  whole = ap (λ l. (before ++ l) ++ ns) (append-nil (block ++ blanks)) ∙ ap (λ l. (before ++ (block ++ blanks)) ++ l) tail.whole ∙ nested before block blanks tail.blanks tail.comment;
  blank = blank;
  is = grammar.IsEnding.qualified block (blanks ++ tail.blanks) tail.comment qualifiers is (All-append (λ mark. is_space mark ≡ true) blanks tail.blanks spaced tail.blank) tail.is;
}
  where
    nested : (a b c d e : List MarkedByte) → (a ++ (b ++ c)) ++ (d ++ e) ≡ a ++ (b ++ (c ++ d) ++ e)
    nested a b c d e = simp append_assoc
ending_goes_on before _ ns _ blank (grammar.IsEnding.qualified block blanks _ qualifiers is spaced (grammar.IsComment.comment rest)) tail = record {
  before = before;
  main = block ++ blanks ++ exclamation ∷ (rest ++ ns);
  whole = nested before block blanks (exclamation ∷ rest) ns;
  blank = blank;
  is = grammar.IsEnding.qualified block blanks (exclamation ∷ (rest ++ ns)) qualifiers is spaced (grammar.IsComment.comment (rest ++ ns));
}
  where
    nested : (a b c d e : List MarkedByte) → (a ++ (b ++ c ++ d)) ++ e ≡ a ++ (b ++ c ++ (d ++ e))
    nested a b c d e = simp append_assoc

prints_tail : (name : List ℕ) → IsText name → Prints IsTail (comment_text name)
prints_tail name h =
    Prints-append IsGap IsComment IsTail (codes " ") (33 ∷ (codes " " ++ run_text true name))
    (λ ms ns gap is. record { blanks = ms; comment = ns; whole = refl; blank = gap.blank; is = is }) prints_space
    (Prints-append (Are (exclamation ∷ [])) (λ marks. Unit {0}) IsComment (33 ∷ []) (codes " " ++ run_text true name)
    (λ ms ns one any. subst IsComment (ap (λ l. l ++ ns) (sym one)) (grammar.IsComment.comment ns))
    (Prints-sign 33 (omega arith) refl refl refl)
    (Prints-append IsGap (IsRunAnywhere name) (λ marks. Unit {0}) (codes " ") (run_text true name) (λ ms ns gap run. tt) prints_space (prints_run name h)))

commented_content : (shape : ValueShape) (one : Value) (qualifiers : List Qualifier) (name : List ℕ) → (shape ≡ shapes.Raw → ⊥) → FitsShape shape one → All FitsQualifier qualifiers → IsText name → IsQualifiedLine shape (content_text one qualifiers ++ comment_text name) one qualifiers
commented_content shape one qualifiers name not_raw fits all h =
    let ending = prints_then (IsLed (λ marks. IsEnding marks qualifiers)) IsTail (behind_space (block_text qualifiers)) (comment_text name)
    (prints_led (λ marks. IsEnding marks qualifiers) (block_text qualifiers) (prints_ending qualifiers all)) (prints_tail name h) in
    let led : Prints (IsLed (λ marks. IsEnding marks qualifiers)) (behind_space (block_text qualifiers) ++ comment_text name) =
    Prints-weaker (Then (IsLed (λ marks. IsEnding marks qualifiers)) IsTail) (IsLed (λ marks. IsEnding marks qualifiers)) (behind_space (block_text qualifiers) ++ comment_text name)
    (λ marks two. subst (IsLed (λ marks. IsEnding marks qualifiers)) (ap (λ l. l ++ two.second) (sym two.left.whole) ∙ sym two.whole)
    (ending_goes_on two.left.before two.left.main two.second qualifiers two.left.blank two.left.is two.right)) ending in
    let bytes = behind_space (value_text one) ++ (behind_space (block_text qualifiers) ++ comment_text name) in
    let printed = prints_then (IsLed (IsAnywhere shape one)) (IsLed (λ marks. IsEnding marks qualifiers)) (behind_space (value_text one)) (behind_space (block_text qualifiers) ++ comment_text name)
    (prints_led (IsAnywhere shape one) (value_text one) (prints_value shape one not_raw fits)) led in
    let left = printed.is.left in
    let right = printed.is.right in
    subst (λ (l : List ℕ). IsQualifiedLine shape l one qualifiers) (sym (append_assoc (behind_space (value_text one)) (behind_space (block_text qualifiers)) (comment_text name)))
    (record {
      valued =
          spelling.IsQualifiedValue.shaped shape bytes left.before left.main right.before right.main one qualifiers
          (whole_marks bytes printed.marks left.before left.main right.before right.main printed.is.first printed.is.second printed.marked printed.is.whole left.whole right.whole)
          left.blank (left.is.is (right.before ++ right.main)) right.blank right.is;
      line = printed.line;
    })

fits_behind : (shape : ValueShape) (qualifiers : List Qualifier) → (shape ≡ shapes.Raw → ⊥) → FitBehind shape qualifiers → All FitsQualifier qualifiers
fits_behind shapes.Raw qualifiers not_raw h = absurd (not_raw refl)
fits_behind shapes.Text qualifiers not_raw h = h
fits_behind shapes.Id qualifiers not_raw h = h
fits_behind shapes.Pair qualifiers not_raw h = h
fits_behind shapes.IdOrPair qualifiers not_raw h = h
fits_behind shapes.Bool qualifiers not_raw h = h
fits_behind shapes.Def qualifiers not_raw h = h
fits_behind shapes.Synonym qualifiers not_raw h = h
fits_behind shapes.XrefShape qualifiers not_raw h = h
fits_behind shapes.Property qualifiers not_raw h = h
fits_behind shapes.SubsetDef qualifiers not_raw h = h
fits_behind shapes.SynonymDef qualifiers not_raw h = h

-- a comment behind the printed line changes nothing of what it spells
pub commented_line : (kind : FrameKind) (first : Bool) (clause : Clause) (name : List ℕ) → Fits kind first clause → (shape_at kind first clause.tag ≡ shapes.Raw → ⊥) → IsText name → IsLineOf kind first (clause_text clause ++ comment_text name) clause
unfolding clause_text
commented_line kind first clause name fits not_raw h =
    let shape = shape_at kind first clause.tag in
    let behind = commented_content shape clause.value clause.qualifiers name not_raw fits.value (fits_behind shape clause.qualifiers not_raw fits.qualifiers) h in
    let rest = content_text clause.value clause.qualifiers ++ comment_text name in
    let whole : clause_text clause ++ comment_text name ≡ clause.tag ++ 58 ∷ rest = append_assoc clause.tag (58 ∷ content_text clause.value clause.qualifiers) (comment_text name) in
    let spells : Spells kind first (clause_text clause ++ comment_text name) clause = record {
      rest = rest;
      tagged = record {
        before = [];
        between = [];
        whole = whole ∙ ap (λ l. l ++ 58 ∷ rest) (sym (append-nil clause.tag));
        blank_before = All-nil (λ byte. is_blank byte ≡ true);
        some = fits.some;
        each = fits.each;
        blank_between = All-nil (λ byte. is_blank byte ≡ true);
      };
      valued = behind.valued;
    } in
    record {
      is_line = subst IsLine (sym whole) (IsLine-append clause.tag (58 ∷ rest) (tag_line clause.tag fits.each) (IsLine-append (58 ∷ []) rest colon_line behind.line));
      spells = spells;
      says = spelling.Says.content clause spells;
    }
