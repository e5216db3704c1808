-- Runs of characters, quoted texts and what is made of these, as they are printed: xref lists and blocks of qualifiers.
use Rattle.std.proofs.Common.{◌≡◌, ℕ, ◌==◌, Bool, true, false, ◌&&◌, ◌||◌, nat_lt, List, [], ◌∷◌, ◌++◌, Option, None, Some, codes, refl, sym, ap, subst, ◌∙◌, inl, inr, append_assoc, append-nil, arith}
use Rattle.std.specs.List.{All, AllPass, flat_map, join_by}
use Rattle.std.proofs.lemmas.Bool.{and_parts, eqb-true, not-true, or_cases, or_right}
use Rattle.std.proofs.lemmas.List.Elements.{All-cons, All-head, All-nil, All-tail}
use Rattle.obo_lexer.specs.Tokens.{is_blank}
use Rattle.obo_clause.specs.declared.clause.Xref.{Xref}
use Rattle.obo_clause.specs.Grammar.{AreBlanks, AreQualifiers, AreSlots, AreTrimmed, IsBlock, IsComment, IsEnding, IsEntry, IsKey, IsLabel, IsQualifier, IsQuoted, IsSlot, IsTrimmed, IsWord, IsXrefList}
use Rattle.obo_clause.specs.Grammar as grammar
use Rattle.obo_clause.specs.declared.mark.MarkedByte.{MarkedByte}
use Rattle.obo_clause.specs.Marks.{meant, read_as}
use Rattle.rel_io.specs.Texts.{IsText}
use Rattle.obo_clause.specs.Fits.{FitsXref, IsTextOrNone}
use Rattle.clause_printer.specs.Printing.{is_end, is_escaped_in_quotes, is_escaped_in_run, label_text, letter_of, list_text, quoted_text, run_text, spelled_byte, word_text, xref_text}
use Rattle.obo_clause.specs.Spelling.{IsRun}
use Rattle.obo_clause.specs.Vocabulary.{comma, is_one_of, is_quoted_mark, is_space, list_close, list_open, quote}
use Rattle.clause_printer.proofs.SpelledMarks.{is_one_of-passes, is_spellable, spelled}
use Rattle.clause_printer.proofs.PrintedParts.{AllPass-map, Are, IsBound, IsEscaping, IsGap, Prints, Prints-append, Prints-nil, Prints-sign, Prints-weaker, blank_cases, free_inner, is_inner, mark_by, never_bare, prints_bound, prints_by, prints_marks, prints_space, read_as-map, spellable_by, trimmed_unspaced}

-- ---- runs

IsEscaping-run : (is_outer : Bool) → IsEscaping (is_escaped_in_run is_outer)
unfolding is_escaped_in_run
IsEscaping-run is_outer = record {
  letters = λ byte is. elim (or_cases (is_one_of (10 ∷ 9 ∷ codes "\\{!") byte) (is_outer && (byte == 32)) is) [
    | inl sign ↦ is_one_of-passes (λ one. nat_lt one 128 && (meant (letter_of one) == one)) (10 ∷ 9 ∷ codes "\\{!") byte refl sign
    | inr outer ↦
        let same : byte ≡ 32 = eqb-true byte 32 (and_parts is_outer (byte == 32) outer).1 in
        subst (λ (one : ℕ). (nat_lt one 128 && (meant (letter_of one) == one)) ≡ true) (sym same) refl
  ];
  backslash = refl;
  line_feed = refl;
}

-- the marks of a run
abbrev run_marks : Bool → List ℕ → List MarkedByte
run_marks begins [] = []
run_marks begins (byte ∷ bytes) = mark_by (is_escaped_in_run (begins || is_end bytes)) byte ∷ run_marks false bytes

read_as-run : (begins : Bool) (text : List ℕ) → read_as (run_marks begins text) ≡ text
read_as-run begins [] = refl
read_as-run begins (byte ∷ text) = ap (λ l. byte ∷ l) (read_as-run false text)

spelled-run : (begins : Bool) (text : List ℕ) → spelled (run_marks begins text) ≡ run_text begins text
spelled-run begins [] = refl
spelled-run begins (byte ∷ text) = ap (λ l. spelled_byte (is_escaped_in_run (begins || is_end text) byte) byte ++ l) (spelled-run false text)

AllPass-run : (p : MarkedByte → Bool) → ((is_outer : Bool) (byte : ℕ) → p (mark_by (is_escaped_in_run is_outer) byte) ≡ true) → (begins : Bool) (text : List ℕ) → AllPass p (run_marks begins text)
AllPass-run p passes begins [] = All-nil (λ mark. p mark ≡ true)
AllPass-run p passes begins (byte ∷ text) = All-cons (λ mark. p mark ≡ true) _ _ (passes (begins || is_end text) byte) (AllPass-run p passes false text)

inner_run : (is_outer : Bool) (byte : ℕ) → is_inner (mark_by (is_escaped_in_run is_outer) byte) ≡ true
unfolding is_escaped_in_run
inner_run is_outer = never_bare (is_one_of (codes "!{")) (is_escaped_in_run is_outer) (λ byte is. is_one_of-passes (is_escaped_in_run is_outer) (codes "!{") byte refl is)

-- an outer mark is no space
outer_mark : (is_outer : Bool) (byte : ℕ) → is_outer ≡ true → is_space (mark_by (is_escaped_in_run is_outer) byte) ≡ false
unfolding is_escaped_in_run
outer_mark true byte is =
    not-true _ (never_bare is_blank (is_escaped_in_run true) (λ one blank. blank_cases (is_escaped_in_run true) one refl refl blank) byte)
outer_mark false byte is = absurd (cc)

run_begins : (text : List ℕ) (mark : MarkedByte) (rest : List MarkedByte) → run_marks true text ≡ mark ∷ rest → is_space mark ≡ false
run_begins [] mark rest whole = absurd (let e : [] ≡ mark ∷ rest = whole in cc)
run_begins (byte ∷ text) mark rest whole =
    let same : mark_by (is_escaped_in_run (true || is_end text)) byte ≡ mark = cc in
    subst (λ (one : MarkedByte). is_space one ≡ false) same (outer_mark (true || is_end text) byte refl)

none_left : (begins : Bool) (text : List ℕ) → run_marks begins text ≡ [] → is_end text ≡ true
none_left begins [] whole = refl
none_left begins (byte ∷ text) whole = absurd (let e : mark_by (is_escaped_in_run (begins || is_end text)) byte ∷ run_marks false text ≡ [] = whole in cc)

run_ends : (begins : Bool) (text : List ℕ) (mark : MarkedByte) (rest : List MarkedByte) → run_marks begins text ≡ rest ++ mark ∷ [] → is_space mark ≡ false
run_ends begins [] mark [] whole = absurd (let e : [] ≡ mark ∷ [] = whole in cc)
run_ends begins [] mark (first ∷ rest) whole = absurd (let e : [] ≡ first ∷ (rest ++ mark ∷ []) = whole in cc)
run_ends begins (byte ∷ text) mark [] whole =
    let same : mark_by (is_escaped_in_run (begins || is_end text)) byte ≡ mark = cc in
    let none : run_marks false text ≡ [] = cc in
    subst (λ (one : MarkedByte). is_space one ≡ false) same (outer_mark (begins || is_end text) byte (or_right begins (is_end text) (none_left false text none)))
run_ends begins (byte ∷ text) mark (first ∷ rest) whole = run_ends false text mark rest cc

-- the marks are a run, whatever stands behind them
pub record IsRunAnywhere (text : List ℕ) (marks : List MarkedByte) : Type 0 where
  pub run : (behind : List MarkedByte) → IsRun behind marks text

pub prints_run : (text : List ℕ) → IsText text → Prints (IsRunAnywhere text) (run_text true text)
prints_run text is =
    prints_marks (IsRunAnywhere text) (run_marks true text) (run_text true text) (spelled-run true text)
    (AllPass-run is_spellable (λ is_outer. spellable_by (is_escaped_in_run is_outer) (IsEscaping-run is_outer)) true text)
    (subst IsText (sym (read_as-run true text)) is)
    (record {
      run = λ behind. record {
        free = free_inner (run_marks true text) behind (AllPass-run is_inner inner_run true text);
        trimmed = record { begins = run_begins text; ends = λ mark rest. run_ends true text mark rest };
        read = read_as-run true text;
      };
    })

-- ---- quoted texts

IsEscaping-quotes : IsEscaping is_escaped_in_quotes
unfolding is_escaped_in_quotes
IsEscaping-quotes = record {
  letters = λ byte is. is_one_of-passes (λ one. nat_lt one 128 && (meant (letter_of one) == one)) (10 ∷ 9 ∷ codes "\\\"") byte refl is;
  backslash = refl;
  line_feed = refl;
}

record IsInside (text : List ℕ) (marks : List MarkedByte) : Type 0 where
  each : AllPass is_quoted_mark marks
  read : read_as marks ≡ text

prints_inside : (text : List ℕ) → IsText text → Prints (IsInside text) (flat_map (λ byte. spelled_byte (is_escaped_in_quotes byte) byte) text)
unfolding is_escaped_in_quotes
prints_inside text is =
    prints_by (IsInside text) is_escaped_in_quotes text IsEscaping-quotes is (record {
      each = AllPass-map is_quoted_mark (mark_by is_escaped_in_quotes) (never_bare (is_one_of (codes "\"")) is_escaped_in_quotes (λ byte one. is_one_of-passes is_escaped_in_quotes (codes "\"") byte refl one)) text;
      read = read_as-map is_escaped_in_quotes text;
    })

prints_quote : Prints (Are (quote ∷ [])) (34 ∷ [])
prints_quote = Prints-sign 34 (omega arith) refl refl refl

abbrev IsBehindQuote : List ℕ → List MarkedByte → Type 0
IsBehindQuote text marks = (inside : List MarkedByte) × (marks ≡ inside ++ quote ∷ []) × IsInside text inside

pub prints_quoted : (text : List ℕ) → IsText text → Prints (λ marks. IsQuoted marks text) (quoted_text text)
prints_quoted text is =
    Prints-append (Are (quote ∷ [])) (IsBehindQuote text) (λ marks. IsQuoted marks text) (34 ∷ []) _
    (λ ms ns begun ended. record {
      inside = ended.0;
      whole = ap (λ l. l ++ ns) begun ∙ ap (λ l. quote ∷ l) ended.1;
      each = ended.2.each;
      read = ended.2.read;
    })
    prints_quote
    (Prints-append (IsInside text) (Are (quote ∷ [])) (IsBehindQuote text) _ (34 ∷ []) (λ ms ns inside closed. (ms, ap (λ l. ms ++ l) closed, inside)) (prints_inside text is) prints_quote)

-- ---- xref lists

-- blanks and a label, or nothing
pub record IsBehindId (label : Option (List ℕ)) (marks : List MarkedByte) : Type 0 where
  pub blanks : List MarkedByte
  pub more : List MarkedByte
  pub whole : marks ≡ blanks ++ more
  pub blank : AreBlanks blanks
  pub labelled : IsLabel more label

pub prints_label : (label : Option (List ℕ)) → IsTextOrNone label → Prints (IsBehindId label) (label_text label)
prints_label None is = Prints-nil (IsBehindId None) (record { blanks = []; more = []; whole = refl; blank = All-nil (λ mark. is_space mark ≡ true); labelled = refl })
prints_label (Some text) is =
    Prints-append IsGap (λ marks. IsQuoted marks text) (IsBehindId (Some text)) (codes " ") (quoted_text text)
    (λ ms ns gap quoted. record { blanks = ms; more = ns; whole = refl; blank = gap.blank; labelled = quoted })
    prints_space (prints_quoted text is)

-- the marks of an id, and what stands behind it
pub record IsXrefAt (xref : Xref) (marks : List MarkedByte) : Type 0 where
  pub id : List MarkedByte
  pub behind : List MarkedByte
  pub whole : marks ≡ id ++ behind
  pub bound : IsBound xref.id id
  pub labelled : IsBehindId xref.label behind

pub prints_xref : (xref : Xref) → FitsXref xref → Prints (IsXrefAt xref) (xref_text xref)
prints_xref xref fits =
    Prints-append (IsBound xref.id) (IsBehindId xref.label) (IsXrefAt xref) (word_text xref.id) (label_text xref.label)
    (λ ms ns bound labelled. record { id = ms; behind = ns; whole = refl; bound = bound; labelled = labelled })
    (prints_bound xref.id fits.id) (prints_label xref.label fits.label)

entry_whole : (before marks id behind blanks more : List MarkedByte) → marks ≡ id ++ behind → behind ≡ blanks ++ more → before ++ marks ≡ before ++ id ++ blanks ++ more ++ []
entry_whole before marks id behind blanks more is labelled =
    ap (λ l. before ++ l) (is ∙ ap (λ l. id ++ l) labelled) ∙ sym (append-nil (before ++ id ++ blanks ++ more) ∙ append_assoc (before ++ id) blanks more ∙ append_assoc before id (blanks ++ more))

entry_of : (xref : Xref) (before marks : List MarkedByte) → AreBlanks before → IsXrefAt xref marks → IsEntry (before ++ marks) xref
entry_of xref before marks blank is = record {
  before = before;
  id = is.id;
  between = is.labelled.blanks;
  label = is.labelled.more;
  behind = [];
  whole = entry_whole before marks is.id is.behind is.labelled.blanks is.labelled.more is.whole is.labelled.whole;
  blank_before = blank;
  blank_between = is.labelled.blank;
  blank_behind = All-nil (λ mark. is_space mark ≡ true);
  some = is.bound.one_word.some;
  each = is.bound.entry;
  trimmed = trimmed_unspaced is.id is.bound.unspaced;
  read = is.bound.one_word.read;
  labelled = is.labelled.labelled;
}

-- an entry behind blanks
prints_entry : (before : List ℕ) (xref : Xref) → Prints AreBlanks before → FitsXref xref → Prints (λ marks. IsEntry marks xref) (before ++ xref_text xref)
prints_entry before xref blank fits =
    Prints-append AreBlanks (IsXrefAt xref) (λ marks. IsEntry marks xref) before (xref_text xref) (entry_of xref) blank (prints_xref xref fits)

pub prints_comma : Prints (Are (comma ∷ [])) (44 ∷ [])
prints_comma = Prints-sign 44 (omega arith) refl refl refl

pub prints_blanks : Prints AreBlanks (codes " ")
prints_blanks = Prints-weaker IsGap AreBlanks (codes " ") (λ marks gap. gap.blank) prints_space

no_blanks : Prints AreBlanks []
no_blanks = Prints-nil AreBlanks (All-nil (λ mark. is_space mark ≡ true))

abbrev other_xrefs : List Xref → List ℕ
other_xrefs xrefs = flat_map (λ xref. codes ", " ++ xref_text xref) xrefs

prints_slots : (before : List ℕ) (xref : Xref) (xrefs : List Xref) → Prints AreBlanks before → FitsXref xref → All FitsXref xrefs → Prints (λ marks. AreSlots marks (xref ∷ xrefs)) ((before ++ xref_text xref) ++ other_xrefs xrefs)
prints_slots before xref [] blank fits all =
    subst (Prints (λ marks. AreSlots marks (xref ∷ []))) (sym (append-nil (before ++ xref_text xref)))
    (Prints-weaker (λ marks. IsEntry marks xref) (λ marks. AreSlots marks (xref ∷ [])) (before ++ xref_text xref)
    (λ marks entry. grammar.AreSlots.last marks (xref ∷ []) (grammar.IsSlot.filled xref entry)) (prints_entry before xref blank fits))
prints_slots before xref (next ∷ xrefs) blank fits all =
    let later = prints_slots (codes " ") next xrefs prints_blanks (All-head FitsXref next xrefs all) (All-tail FitsXref next xrefs all) in
    Prints-append (λ marks. IsEntry marks xref) (λ marks. (rest : List MarkedByte) × (marks ≡ comma ∷ rest) × AreSlots rest (next ∷ xrefs)) (λ marks. AreSlots marks (xref ∷ next ∷ xrefs))
    (before ++ xref_text xref) (other_xrefs (next ∷ xrefs))
    (λ ms ns entry more. subst (λ (l : List MarkedByte). AreSlots (ms ++ l) (xref ∷ next ∷ xrefs)) (sym more.1) (grammar.AreSlots.more ms more.0 (xref ∷ []) (next ∷ xrefs) (grammar.IsSlot.filled xref entry) more.2))
    (prints_entry before xref blank fits)
    (Prints-append (Are (comma ∷ [])) (λ marks. AreSlots marks (next ∷ xrefs)) (λ marks. (rest : List MarkedByte) × (marks ≡ comma ∷ rest) × AreSlots rest (next ∷ xrefs)) (44 ∷ []) _
    (λ ms ns one slots. (ns, ap (λ l. l ++ ns) one, slots)) prints_comma later)

prints_inside_list : (xrefs : List Xref) → All FitsXref xrefs → Prints (λ marks. AreSlots marks xrefs) (join_by xref_text (codes ", ") xrefs)
prints_inside_list [] all = Prints-nil (λ marks. AreSlots marks []) (grammar.AreSlots.last [] [] (grammar.IsSlot.skipped (All-nil (λ mark. is_space mark ≡ true))))
prints_inside_list (xref ∷ xrefs) all = prints_slots [] xref xrefs no_blanks (All-head FitsXref xref xrefs all) (All-tail FitsXref xref xrefs all)

abbrev IsBehindOpen : List Xref → List MarkedByte → Type 0
IsBehindOpen xrefs marks = (inside : List MarkedByte) × (marks ≡ inside ++ list_close ∷ []) × AreSlots inside xrefs

pub prints_list : (xrefs : List Xref) → All FitsXref xrefs → Prints (λ marks. IsXrefList marks xrefs) (list_text xrefs)
prints_list xrefs all =
    Prints-append (Are (list_open ∷ [])) (IsBehindOpen xrefs) (λ marks. IsXrefList marks xrefs) (91 ∷ []) _
    (λ ms ns begun ended. record { inside = ended.0; whole = ap (λ l. l ++ ns) begun ∙ ap (λ l. list_open ∷ l) ended.1; slots = ended.2 })
    (Prints-sign 91 (omega arith) refl refl refl)
    (Prints-append (λ marks. AreSlots marks xrefs) (Are (list_close ∷ [])) (IsBehindOpen xrefs) _ (93 ∷ []) (λ ms ns slots closed. (ms, ap (λ l. ms ++ l) closed, slots))
    (prints_inside_list xrefs all) (Prints-sign 93 (omega arith) refl refl refl))
