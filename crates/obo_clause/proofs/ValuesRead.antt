-- Each value with an ending behind it is read as what it is.
use Rattle.std.proofs.Common.{◌≡◌, ℕ, ◌<◌, ◌==◌, Bool, true, false, not, ◌&&◌, cond, List, [], ◌∷◌, ◌++◌, Option, Some, None, is_some, Ok, Err, length, refl, sym, ap, subst, ◌∙◌, arith}
use Rattle.std.specs.Prelude.{unwrap_or}
use Rattle.std.specs.List.{AllPass}
use Rattle.std.proofs.lemmas.Bool.{ne_eqb, or_left, or_right}
use Rattle.std.proofs.lemmas.List.{append_assoc, append-nil}
use Rattle.std.proofs.lemmas.List.Elements.{All-weaker}
use Rattle.obo_tags.specs.declared.kind.ValueShape.{ValueShape}
use Rattle.obo_tags.specs.declared.kind.ValueShape.TheVariants as shapes
use Rattle.obo_clause.specs.declared.clause.Qualifier.{Qualifier}
use Rattle.obo_clause.specs.declared.clause.Scope.{Scope}
use Rattle.obo_clause.specs.declared.clause.Scope.TheVariants as scope
use Rattle.obo_clause.specs.declared.clause.Value.{Value}
use Rattle.obo_clause.specs.declared.clause.Value.TheVariants as value
use Rattle.obo_clause.specs.declared.clause.Xref.{Xref}
use Rattle.obo_clause.specs.declared.line.SyntaxKind.TheVariants as syntax
use Rattle.obo_clause.specs.declared.clause.QualifiedValue.{QualifiedValue}
use Rattle.obo_clause.specs.Faults.{Stops}
use Rattle.obo_clause.specs.Grammar.{AreBlanks, IsEnding, IsLabel, IsQuoted, IsWord}
use Rattle.obo_clause.specs.Marks.{MarkedByte, read_as}
use Rattle.obo_clause.specs.Reading.{Answer, behind_blanks, behind_sign, ending_at, found, list_at, next, quoted_at, stops_run, trim_end, wanted, word_at}
use Rattle.obo_clause.specs.ReadingLines.{Scoped, qualified_value, datatype_of, ended, labelled, may_have_word, read_bool, read_definition, read_id, read_id_or_pair, read_link, read_literal, read_pair, read_property, read_subset, read_synonym, read_synonym_type, read_text, read_xref, scope_of, scoped_at, type_behind, type_scope_at, want_truth, want_word, xref}
use Rattle.obo_clause.specs.Spelling.{IsMoreList, IsMoreWord, IsRun, IsScoped, IsSecondWord, IsTypeScope, IsValue, bool_word, scope_word, text_datatype}
use Rattle.obo_clause.specs.Vocabulary.{is_quoted_mark, is_space, is_word_mark, list_close, list_open, quote}
use Rattle.obo_clause.proofs.EndingLemmas.{ending-begins, ending-finds}
use Rattle.obo_clause.proofs.ListLemmas.{list-finds, list-none}
use Rattle.obo_clause.proofs.RunLemmas.{pass-append, pass-head, pass-nil, stops-run}
use Rattle.obo_clause.proofs.RunningText.{text-at}
use Rattle.obo_clause.proofs.SignLemmas.{behind_sign-stops, not-sign, space-not_word, space-quoted}
use Rattle.obo_clause.proofs.SlotLemmas.{Listed}
use Rattle.obo_clause.proofs.TailLemmas.{ended-finds, on-with, scope-none, scope-of, tail-no_word, tail-stops_word, truth-of, want-finds}
use Rattle.obo_clause.proofs.ValuesFound.{TypeScope}
use Rattle.obo_clause.proofs.WordLemmas.{HasQuoted, HasRun, Two, blanks-behind, quoted-finds, quoted-rest, run-begins, word-finds, word-none}

-- what stands behind a colon and is no text of a foreign tag
abbrev pub read_marks : ValueShape → List MarkedByte → Answer QualifiedValue
read_marks shapes.Text marks = read_text marks
read_marks shapes.Id marks = read_id marks
read_marks shapes.Pair marks = read_pair marks
read_marks shapes.IdOrPair marks = read_id_or_pair marks
read_marks shapes.Bool marks = read_bool marks
read_marks shapes.Def marks = read_definition marks
read_marks shapes.Synonym marks = read_synonym marks
read_marks shapes.XrefShape marks = read_xref marks
read_marks shapes.Property marks = read_property marks
read_marks shapes.SubsetDef marks = read_subset marks
read_marks shapes.SynonymDef marks = read_synonym_type marks
read_marks shapes.Raw marks = Err syntax.Trailing

-- ---- parts in their places

has-run : (blanks run rest : List MarkedByte) (word : List ℕ) → AreBlanks blanks → IsWord run word → Stops is_word_mark rest → HasRun (blanks ++ (run ++ rest)) run rest
has-run blanks run rest word blank is stops = record { blanks = blanks; whole = refl; blank = blank; some = is.some; each = is.each; stops = stops }

-- blanks that are some, or a sign, stop a word
blanks-stop : (blanks rest : List MarkedByte) → 0 < length blanks → AreBlanks blanks → Stops is_word_mark (blanks ++ rest)
blanks-stop [] rest some blank = absurd (omega arith)
blanks-stop (x ∷ blanks) rest some blank = space-not_word x (pass-head is_space x blanks blank)

blanks-stop_sign : (blanks : List MarkedByte) (mark : MarkedByte) (rest : List MarkedByte) → is_word_mark mark ≡ false → AreBlanks blanks → Stops is_word_mark (blanks ++ mark ∷ rest)
blanks-stop_sign [] mark rest is blank = is
blanks-stop_sign (x ∷ blanks) mark rest is blank = space-not_word x (pass-head is_space x blanks blank)

quoted-place : (blanks texts rest : List MarkedByte) (text : List ℕ) → AreBlanks blanks → (q : IsQuoted texts text) → HasQuoted (blanks ++ (texts ++ rest)) q.inside rest
quoted-place blanks texts rest text blank q = record {
  blanks = blanks;
  whole = ap (λ l. blanks ++ (l ++ rest)) q.whole ∙ ap (λ l. blanks ++ l) (quoted-rest q.inside rest);
  blank = blank;
  each = q.each;
}

quoted-is-read : (blanks texts rest : List MarkedByte) (text : List ℕ) → AreBlanks blanks → (q : IsQuoted texts text) → quoted_at (blanks ++ (texts ++ rest)) ≡ Ok (q.inside, rest)
quoted-is-read blanks texts rest text blank q = quoted-finds (blanks ++ (texts ++ rest)) q.inside rest (quoted-place blanks texts rest text blank q)

quoted-stops_word : (blanks texts rest : List MarkedByte) (text : List ℕ) → AreBlanks blanks → IsQuoted texts text → Stops is_word_mark (blanks ++ (texts ++ rest))
quoted-stops_word blanks texts rest text blank q =
    subst (Stops is_word_mark) (ap (λ l. blanks ++ l) (sym (quoted-rest q.inside rest) ∙ ap (λ l. l ++ rest) (sym q.whole))) (blanks-stop_sign blanks quote (q.inside ++ quote ∷ rest) refl blank)

-- ---- values, with this behind them

module _ (between ending : List MarkedByte) (qualifiers : List Qualifier) (blank : AreBlanks between) (is_ending : IsEnding ending qualifiers) where
  abbrev tail : List MarkedByte
  tail = between ++ ending

  ends : (one : Value) → ended tail one ≡ Ok (qualified_value one qualifiers)
  ends one = ended-finds between ending qualifiers one blank is_ending

  stops : Stops is_word_mark tail
  stops = tail-stops_word between ending qualifiers blank is_ending

  no_word : word_at tail ≡ None
  no_word = tail-no_word between ending qualifiers blank is_ending

  no_list : list_at tail ≡ Ok ([], tail)
  no_list =
      list-none tail (ap (behind_sign 91) (blanks-behind between ending blank (ending-begins is_space ending qualifiers is_ending refl refl)) ∙ behind_sign-stops 91 ending (ending-begins (λ mark. not mark.is_escaped && mark.byte == 91) ending qualifiers is_ending refl refl))

  -- the text of a value is told by its marks
  told : {A : Type 0} (make : A → Value) (one two : A) → one ≡ two → ◌≡◌ {A = Answer QualifiedValue} (Ok (qualified_value (make one) qualifiers)) (Ok (qualified_value (make two) qualifiers))
  told make one two e = ap (λ x. Ok (qualified_value (make x) qualifiers)) e

  -- a list, or nothing, behind a value
  more-list-read : (part : List MarkedByte) (xrefs : List Xref) → IsMoreList part xrefs → list_at (part ++ tail) ≡ Ok (xrefs, tail)
  more-list-read _ _ IsMoreList.nothing = no_list
  more-list-read _ _ (IsMoreList.list blanks list xrefs before is) =
      ap list_at (ap (λ l. blanks ++ l ++ tail) is.whole ∙ simp append_assoc) ∙ list-finds blanks is.inside tail xrefs before is.slots

  -- a list, or nothing, begins with no word
  more-list-stops : (part : List MarkedByte) (xrefs : List Xref) → IsMoreList part xrefs → Stops is_word_mark (part ++ tail)
  more-list-stops _ _ IsMoreList.nothing = stops
  more-list-stops _ _ (IsMoreList.list blanks list xrefs before is) =
      subst (Stops is_word_mark) (sym (ap (λ l. blanks ++ l ++ tail) is.whole ∙ simp append_assoc)) (blanks-stop_sign blanks list_open (is.inside ++ list_close ∷ tail) refl before)

  list-no-word : (blanks inside : List MarkedByte) → AreBlanks blanks → word_at (blanks ++ (list_open ∷ inside)) ≡ None
  list-no-word blanks inside before =
      word-none (blanks ++ (list_open ∷ inside)) (record { rest = list_open ∷ inside; behind = record { blanks = blanks; whole = refl; blank = before; stops = refl }; stops = refl })

  more-list-no_word : (part : List MarkedByte) (xrefs : List Xref) → IsMoreList part xrefs → word_at (part ++ tail) ≡ None
  more-list-no_word _ _ IsMoreList.nothing = no_word
  more-list-no_word _ _ (IsMoreList.list blanks list xrefs before is) =
      ap word_at (ap (λ l. blanks ++ l ++ tail) is.whole ∙ simp append_assoc) ∙ list-no-word blanks (is.inside ++ list_close ∷ tail) before

  module _ (before : List MarkedByte) (blank_before : AreBlanks before) where
    id-is : (marks : List MarkedByte) (word : List ℕ) → IsWord marks word → read_id (before ++ (marks ++ tail)) ≡ Ok (qualified_value (value.Id word) qualifiers)
    unfolding read_id
    id-is marks word is =
        on-with (want_word (before ++ (marks ++ tail))) (λ (word : Two). ended word.1 (value.Id (read_as word.0))) (marks, tail) (want-finds (before ++ (marks ++ tail)) marks tail (has-run before marks tail word blank_before is stops))
        ∙ (ends (value.Id (read_as marks)) ∙ told value.Id (read_as marks) word is.read)

    class-is : (marks : List MarkedByte) (word : List ℕ) → IsWord marks word → read_id_or_pair (before ++ (marks ++ tail)) ≡ Ok (qualified_value (value.Id word) qualifiers)
    unfolding read_id_or_pair
    class-is marks word is =
        on-with (want_word (before ++ (marks ++ tail))) (λ (word : Two). found {B = Answer QualifiedValue} (word_at word.1) (ended word.1 (value.Id (read_as word.0))) (λ (second : Two). ended second.1 (value.Pair (read_as word.0) (read_as second.0)))) (marks, tail) (want-finds (before ++ (marks ++ tail)) marks tail (has-run before marks tail word blank_before is stops))
        ∙ (ap (λ o. found {B = Answer QualifiedValue} o (ended tail (value.Id (read_as marks))) (λ (second : Two). ended second.1 (value.Pair (read_as marks) (read_as second.0)))) no_word
        ∙ (ends (value.Id (read_as marks)) ∙ told value.Id (read_as marks) word is.read))

    truth-is-read : (marks : List MarkedByte) (truth : Bool) → IsWord marks (bool_word truth) → read_bool (before ++ (marks ++ tail)) ≡ Ok (qualified_value (value.Bool truth) qualifiers)
    unfolding read_bool
    truth-is-read marks truth is =
        on-with (want_word (before ++ (marks ++ tail))) (λ (word : Two). next (want_truth (read_as word.0)) (λ (truth : Bool). ended word.1 (value.Bool truth))) (marks, tail) (want-finds (before ++ (marks ++ tail)) marks tail (has-run before marks tail (bool_word truth) blank_before is stops))
        ∙ (on-with (want_truth (read_as marks)) (λ (truth : Bool). ended tail (value.Bool truth)) truth (ap (wanted syntax.BadBool) (truth-of (read_as marks) truth is.read))
        ∙ ends (value.Bool truth))

    -- two words
    first-run : (marks blanks others : List MarkedByte) (first : List ℕ) → IsWord marks first → 0 < length blanks → AreBlanks blanks → HasRun (before ++ (marks ++ (blanks ++ (others ++ tail)))) marks (blanks ++ (others ++ tail))
    first-run marks blanks others first is some spaces = has-run before marks (blanks ++ (others ++ tail)) first blank_before is (blanks-stop blanks (others ++ tail) some spaces)

    two-whole : (marks blanks others : List MarkedByte) → before ++ ((marks ++ blanks ++ others) ++ tail) ≡ before ++ (marks ++ (blanks ++ (others ++ tail)))
    two-whole marks blanks others = simp append_assoc

    two-told : (make : List ℕ → List ℕ → Value) (a b c d : List ℕ) → a ≡ c → b ≡ d → ◌≡◌ {A = Answer QualifiedValue} (Ok (qualified_value (make a b) qualifiers)) (Ok (qualified_value (make c d) qualifiers))
    two-told make a b c d one two = λ i. Ok (qualified_value (make (one i) (two i)) qualifiers)

    pair-is : (marks blanks others : List MarkedByte) (first second : List ℕ) → IsWord marks first → 0 < length blanks → AreBlanks blanks → IsWord others second → read_pair (before ++ ((marks ++ blanks ++ others) ++ tail)) ≡ Ok (qualified_value (value.Pair first second) qualifiers)
    unfolding read_pair
    pair-is marks blanks others first second one some spaces two =
        let rest = blanks ++ (others ++ tail) in
        ap read_pair (two-whole marks blanks others)
        ∙ (on-with (want_word (before ++ (marks ++ rest))) (λ (word : Two). next (want_word word.1) (λ (second : Two). ended second.1 (value.Pair (read_as word.0) (read_as second.0)))) (marks, rest) (want-finds (before ++ (marks ++ rest)) marks rest (first-run marks blanks others first one some spaces))
        ∙ (on-with (want_word rest) (λ (second : Two). ended second.1 (value.Pair (read_as marks) (read_as second.0))) (others, tail) (want-finds rest others tail (has-run blanks others tail second spaces two stops))
        ∙ (ends (value.Pair (read_as marks) (read_as others)) ∙ two-told value.Pair (read_as marks) (read_as others) first second one.read two.read)))

    restriction-is : (marks blanks others : List MarkedByte) (first second : List ℕ) → IsWord marks first → 0 < length blanks → AreBlanks blanks → IsWord others second → read_id_or_pair (before ++ ((marks ++ blanks ++ others) ++ tail)) ≡ Ok (qualified_value (value.Pair first second) qualifiers)
    unfolding read_id_or_pair
    restriction-is marks blanks others first second one some spaces two =
        let rest = blanks ++ (others ++ tail) in
        ap read_id_or_pair (two-whole marks blanks others)
        ∙ (on-with (want_word (before ++ (marks ++ rest))) (λ (word : Two). found {B = Answer QualifiedValue} (word_at word.1) (ended word.1 (value.Id (read_as word.0))) (λ (second : Two). ended second.1 (value.Pair (read_as word.0) (read_as second.0)))) (marks, rest) (want-finds (before ++ (marks ++ rest)) marks rest (first-run marks blanks others first one some spaces))
        ∙ (ap (λ o. found {B = Answer QualifiedValue} o (ended rest (value.Id (read_as marks))) (λ (second : Two). ended second.1 (value.Pair (read_as marks) (read_as second.0)))) (word-finds rest others tail (has-run blanks others tail second spaces two stops))
        ∙ (ends (value.Pair (read_as marks) (read_as others)) ∙ two-told value.Pair (read_as marks) (read_as others) first second one.read two.read)))

    -- quoted texts
    definition-is : (marks more : List MarkedByte) (text : List ℕ) (xrefs : List Xref) → IsQuoted marks text → IsMoreList more xrefs → read_definition (before ++ ((marks ++ more) ++ tail)) ≡ Ok (qualified_value (value.Def text xrefs) qualifiers)
    unfolding read_definition
    definition-is marks more text xrefs q are =
        let rest = more ++ tail in
        ap (λ l. read_definition (before ++ l)) (append_assoc marks more tail)
        ∙ (on-with (quoted_at (before ++ (marks ++ rest))) (λ (text : Two). next (list_at text.1) (λ (list : Listed). ended list.1 (value.Def (read_as text.0) list.0))) (q.inside, rest) (quoted-is-read before marks rest text blank_before q)
        ∙ (on-with (list_at rest) (λ (list : Listed). ended list.1 (value.Def (read_as q.inside) list.0)) (xrefs, tail) (more-list-read more xrefs are)
        ∙ (ends (value.Def (read_as q.inside) xrefs) ∙ told (λ text. value.Def text xrefs) (read_as q.inside) text q.read)))

    -- scopes and types
    scoped-is : (scopes more : List MarkedByte) (one : Scope) (type : Option (List ℕ)) (xrefs : List Xref) → IsScoped scopes one type → IsMoreList more xrefs → scoped_at (scopes ++ (more ++ tail)) ≡ (one, type, more ++ tail)
    unfolding scoped_at
    scoped-is _ more _ _ xrefs IsScoped.nothing are =
        ap (λ o. found {B = Scoped} o (scope.Related, None, more ++ tail) (λ (word : Two). found {B = Scoped} (scope_of (read_as word.0)) (scope.Related, Some (read_as word.0), word.1) (λ (one : Scope). type_behind one word.1))) (more-list-no_word more xrefs are)
    scoped-is _ more _ _ xrefs (IsScoped.typed blanks marks word spaces is never) are =
        let rest = more ++ tail in
        let none : scope_of (read_as marks) ≡ None = ap scope_of is.read ∙ scope-none word never in
        ap scoped_at (append_assoc blanks marks rest)
        ∙ (ap (λ o. found {B = Scoped} o (scope.Related, None, blanks ++ (marks ++ rest)) (λ (word : Two). found {B = Scoped} (scope_of (read_as word.0)) (scope.Related, Some (read_as word.0), word.1) (λ (one : Scope). type_behind one word.1))) (word-finds (blanks ++ (marks ++ rest)) marks rest (has-run blanks marks rest word spaces is (more-list-stops more xrefs are)))
        ∙ (ap (λ o. found {B = Scoped} o (scope.Related, Some (read_as marks), rest) (λ (one : Scope). type_behind one rest)) none
        ∙ ap (λ (word : List ℕ). typed word rest) is.read))
      where
        typed : List ℕ → List MarkedByte → Scoped
        typed word rest = (scope.Related, Some word, rest)
    scoped-is _ more _ _ xrefs (IsScoped.scoped blanks marks later one type spaces is second) are =
        let rest = later ++ (more ++ tail) in
        ap scoped_at (ap (λ l. l ++ (more ++ tail)) (append_assoc blanks marks later) ∙ simp append_assoc)
        ∙ (ap (λ o. found {B = Scoped} o (scope.Related, None, blanks ++ (marks ++ rest)) (λ (word : Two). found {B = Scoped} (scope_of (read_as word.0)) (scope.Related, Some (read_as word.0), word.1) (λ (one : Scope). type_behind one word.1))) (word-finds (blanks ++ (marks ++ rest)) marks rest (has-run blanks marks rest (scope_word one) spaces is (later-stops later type second)))
        ∙ (ap (λ o. found {B = Scoped} o (scope.Related, Some (read_as marks), rest) (λ (one : Scope). type_behind one rest)) (scope-of (read_as marks) one is.read)
        ∙ type-is later type second))
      where
        later-stops : (later : List MarkedByte) (type : Option (List ℕ)) → IsSecondWord later type → Stops is_word_mark (later ++ (more ++ tail))
        later-stops _ _ IsSecondWord.nothing = more-list-stops more xrefs are
        later-stops _ _ (IsSecondWord.word blanks marks word some spaces is) =
            subst (Stops is_word_mark) (sym (append_assoc blanks marks (more ++ tail))) (blanks-stop blanks (marks ++ (more ++ tail)) some spaces)

        type-is : (later : List MarkedByte) (type : Option (List ℕ)) → IsSecondWord later type → type_behind one (later ++ (more ++ tail)) ≡ (one, type, more ++ tail)
        type-is _ _ IsSecondWord.nothing =
            ap (λ o. found {B = Scoped} o (one, None, more ++ tail) (λ (type : Two). (one, Some (read_as type.0), type.1))) (more-list-no_word more xrefs are)
        type-is _ _ (IsSecondWord.word blanks marks word some spaces is) =
            ap (type_behind one) (append_assoc blanks marks (more ++ tail))
            ∙ (ap (λ o. found {B = Scoped} o (one, None, blanks ++ (marks ++ (more ++ tail))) (λ (type : Two). (one, Some (read_as type.0), type.1))) (word-finds (blanks ++ (marks ++ (more ++ tail))) marks (more ++ tail) (has-run blanks marks (more ++ tail) word spaces is (more-list-stops more xrefs are)))
            ∙ ap (λ (word : List ℕ). said word) is.read)
          where
            said : List ℕ → Scoped
            said word = (one, Some word, more ++ tail)

    synonym-is : (marks scopes more : List MarkedByte) (text : List ℕ) (one : Scope) (type : Option (List ℕ)) (xrefs : List Xref) → IsQuoted marks text → IsScoped scopes one type → IsMoreList more xrefs → read_synonym (before ++ ((marks ++ scopes ++ more) ++ tail)) ≡ Ok (qualified_value (value.Synonym text one type xrefs) qualifiers)
    unfolding read_synonym
    synonym-is marks scopes more text one type xrefs q said are =
        let rest = scopes ++ (more ++ tail) in
        let whole : before ++ ((marks ++ scopes ++ more) ++ tail) ≡ before ++ (marks ++ rest) = simp append_assoc in
        ap read_synonym whole
        ∙ (on-with (quoted_at (before ++ (marks ++ rest))) (λ (text : Two). next (list_at (scoped_at text.1).2) (λ (list : Listed). ended list.1 (value.Synonym (read_as text.0) (scoped_at text.1).0 (scoped_at text.1).1 list.0))) (q.inside, rest) (quoted-is-read before marks rest text blank_before q)
        ∙ (ap (λ (s : Scoped). next (list_at s.2) (λ (list : Listed). ended list.1 (value.Synonym (read_as q.inside) s.0 s.1 list.0))) (scoped-is scopes more one type xrefs said are)
        ∙ (on-with (list_at (more ++ tail)) (λ (list : Listed). ended list.1 (value.Synonym (read_as q.inside) one type list.0)) (xrefs, tail) (more-list-read more xrefs are)
        ∙ (ends (value.Synonym (read_as q.inside) one type xrefs) ∙ told (λ text. value.Synonym text one type xrefs) (read_as q.inside) text q.read))))

    -- properties
    after-word : (marks blanks texts more : List MarkedByte) (relation text : List ℕ) → IsWord marks relation → AreBlanks blanks → IsQuoted texts text → HasRun (before ++ (marks ++ (blanks ++ (texts ++ (more ++ tail))))) marks (blanks ++ (texts ++ (more ++ tail)))
    after-word marks blanks texts more relation text is spaces q =
        has-run before marks (blanks ++ (texts ++ (more ++ tail))) relation blank_before is (quoted-stops_word blanks texts (more ++ tail) text spaces q)

    quote-there : (blanks texts rest : List MarkedByte) (text : List ℕ) → AreBlanks blanks → (q : IsQuoted texts text) → behind_sign 34 (behind_blanks (blanks ++ (texts ++ rest))) ≡ Some (q.inside ++ quote ∷ rest)
    quote-there blanks texts rest text spaces q =
        ap (λ l. behind_sign 34 (behind_blanks (blanks ++ l))) (ap (λ l. l ++ rest) q.whole ∙ quoted-rest q.inside rest)
        ∙ ap (behind_sign 34) (blanks-behind blanks (quote ∷ (q.inside ++ quote ∷ rest)) spaces refl)

    more-word-is : (more : List MarkedByte) (datatype : Option (List ℕ)) → IsMoreWord more datatype → let r = may_have_word (more ++ tail) in (r.1 ≡ tail) × (datatype_of r.0 ≡ unwrap_or datatype text_datatype)
    more-word-is _ _ IsMoreWord.nothing =
        let e = ap (λ o. found {B = Option (List MarkedByte) × List MarkedByte} o (None, tail) (λ (word : Two). (Some word.0, word.1))) no_word in
        (ap (λ (r : Option (List MarkedByte) × List MarkedByte). r.1) e, ap (λ (r : Option (List MarkedByte) × List MarkedByte). datatype_of r.0) e)
    more-word-is _ _ (IsMoreWord.word blanks marks word spaces is) =
        let e = ap may_have_word (append_assoc blanks marks tail) ∙ ap (λ o. found {B = Option (List MarkedByte) × List MarkedByte} o (None, blanks ++ (marks ++ tail)) (λ (word : Two). (Some word.0, word.1))) (word-finds (blanks ++ (marks ++ tail)) marks tail (has-run blanks marks tail word spaces is stops)) in
        (ap (λ (r : Option (List MarkedByte) × List MarkedByte). r.1) e, ap (λ (r : Option (List MarkedByte) × List MarkedByte). datatype_of r.0) e ∙ is.read)

    literal-is : (marks blanks texts more : List MarkedByte) (relation text : List ℕ) (datatype : Option (List ℕ)) → IsWord marks relation → AreBlanks blanks → IsQuoted texts text → IsMoreWord more datatype → read_property (before ++ ((marks ++ blanks ++ texts ++ more) ++ tail)) ≡ Ok (qualified_value (value.Literal relation text (unwrap_or datatype text_datatype)) qualifiers)
    unfolding read_property read_literal
    literal-is marks blanks texts more relation text datatype is spaces q m =
        let rest = blanks ++ (texts ++ (more ++ tail)) in
        let whole : before ++ ((marks ++ blanks ++ texts ++ more) ++ tail) ≡ before ++ (marks ++ rest) = simp append_assoc in
        let r = may_have_word (more ++ tail) in
        let parts = more-word-is more datatype m in
        let made = λ (d : List ℕ). value.Literal (read_as marks) (read_as q.inside) d in
        ap read_property whole
        ∙ (on-with (want_word (before ++ (marks ++ rest))) (λ (word : Two). found {B = Answer QualifiedValue} (behind_sign 34 (behind_blanks word.1)) (read_link (read_as word.0) word.1) (λ (_ : List MarkedByte). read_literal (read_as word.0) word.1)) (marks, rest) (want-finds (before ++ (marks ++ rest)) marks rest (after-word marks blanks texts more relation text is spaces q))
        ∙ (ap (λ o. found {B = Answer QualifiedValue} o (read_link (read_as marks) rest) (λ (_ : List MarkedByte). read_literal (read_as marks) rest)) (quote-there blanks texts (more ++ tail) text spaces q)
        ∙ (on-with (quoted_at rest) (λ (text : Two). ended (may_have_word text.1).1 (value.Literal (read_as marks) (read_as text.0) (datatype_of (may_have_word text.1).0))) (q.inside, more ++ tail) (quoted-is-read blanks texts (more ++ tail) text spaces q)
        ∙ ((λ i. ended (parts.0 i) (made (parts.1 i)))
        ∙ (ends (made (unwrap_or datatype text_datatype)) ∙ two-told (λ a b. value.Literal a b (unwrap_or datatype text_datatype)) (read_as marks) (read_as q.inside) relation text is.read q.read)))))

    no-quote-there : (blanks others rest : List MarkedByte) (word : List ℕ) → AreBlanks blanks → IsWord others word → behind_sign 34 (behind_blanks (blanks ++ (others ++ rest))) ≡ None
    no-quote-there blanks others rest word spaces is =
        ap (behind_sign 34) (blanks-behind blanks (others ++ rest) spaces (run-begins others rest is.some is.each))
        ∙ behind_sign-stops 34 (others ++ rest) (stops-run is_word_mark (λ mark. not mark.is_escaped && mark.byte == 34) (λ mark one. not-sign is_word_mark 34 mark refl one) others rest is.some is.each)

    link-is : (marks blanks others : List MarkedByte) (relation target : List ℕ) → IsWord marks relation → 0 < length blanks → AreBlanks blanks → IsWord others target → read_property (before ++ ((marks ++ blanks ++ others) ++ tail)) ≡ Ok (qualified_value (value.Link relation target) qualifiers)
    unfolding read_property read_link
    link-is marks blanks others relation target one some spaces two =
        let rest = blanks ++ (others ++ tail) in
        ap read_property (two-whole marks blanks others)
        ∙ (on-with (want_word (before ++ (marks ++ rest))) (λ (word : Two). found {B = Answer QualifiedValue} (behind_sign 34 (behind_blanks word.1)) (read_link (read_as word.0) word.1) (λ (_ : List MarkedByte). read_literal (read_as word.0) word.1)) (marks, rest) (want-finds (before ++ (marks ++ rest)) marks rest (first-run marks blanks others relation one some spaces))
        ∙ (ap (λ o. found {B = Answer QualifiedValue} o (read_link (read_as marks) rest) (λ (_ : List MarkedByte). read_literal (read_as marks) rest)) (no-quote-there blanks others tail target spaces two)
        ∙ (on-with (want_word rest) (λ (target : Two). ended target.1 (value.Link (read_as marks) (read_as target.0))) (others, tail) (want-finds rest others tail (has-run blanks others tail target spaces two stops))
        ∙ (ends (value.Link (read_as marks) (read_as others)) ∙ two-told value.Link (read_as marks) (read_as others) relation target one.read two.read))))

    -- subsets and types of synonyms
    subset-is : (marks blanks texts : List MarkedByte) (id text : List ℕ) → IsWord marks id → AreBlanks blanks → IsQuoted texts text → read_subset (before ++ ((marks ++ blanks ++ texts) ++ tail)) ≡ Ok (qualified_value (value.SubsetDef id text) qualifiers)
    unfolding read_subset
    subset-is marks blanks texts id text is spaces q =
        let rest = blanks ++ (texts ++ tail) in
        ap read_subset (two-whole marks blanks texts)
        ∙ (on-with (want_word (before ++ (marks ++ rest))) (λ (word : Two). next (quoted_at word.1) (λ (text : Two). ended text.1 (value.SubsetDef (read_as word.0) (read_as text.0)))) (marks, rest) (want-finds (before ++ (marks ++ rest)) marks rest (after-word marks blanks texts [] id text is spaces q))
        ∙ (on-with (quoted_at rest) (λ (text : Two). ended text.1 (value.SubsetDef (read_as marks) (read_as text.0))) (q.inside, tail) (quoted-is-read blanks texts tail text spaces q)
        ∙ (ends (value.SubsetDef (read_as marks) (read_as q.inside)) ∙ two-told value.SubsetDef (read_as marks) (read_as q.inside) id text is.read q.read)))

    type_scope-is : (more : List MarkedByte) (one : Option Scope) → IsTypeScope more one → type_scope_at (more ++ tail) ≡ Ok (one, tail)
    unfolding type_scope_at
    type_scope-is _ _ IsTypeScope.nothing =
        ap (λ o. found {B = Answer TypeScope} o (Ok (None, tail)) (λ (word : Two). next {A = Scope} {B = TypeScope} (wanted syntax.Trailing (scope_of (read_as word.0))) (λ (one : Scope). Ok (Some one, word.1)))) no_word
    type_scope-is _ _ (IsTypeScope.scoped blanks marks one spaces is) =
        ap type_scope_at (append_assoc blanks marks tail)
        ∙ (ap (λ o. found {B = Answer TypeScope} o (Ok (None, blanks ++ (marks ++ tail))) (λ (word : Two). next {A = Scope} {B = TypeScope} (wanted syntax.Trailing (scope_of (read_as word.0))) (λ (one : Scope). Ok (Some one, word.1)))) (word-finds (blanks ++ (marks ++ tail)) marks tail (has-run blanks marks tail (scope_word one) spaces is stops))
        ∙ ap (λ o. next {A = Scope} {B = TypeScope} (wanted syntax.Trailing o) (λ (one : Scope). Ok (Some one, tail))) (scope-of (read_as marks) one is.read))

    synonym_type-is : (marks blanks texts more : List MarkedByte) (id text : List ℕ) (one : Option Scope) → IsWord marks id → AreBlanks blanks → IsQuoted texts text → IsTypeScope more one → read_synonym_type (before ++ ((marks ++ blanks ++ texts ++ more) ++ tail)) ≡ Ok (qualified_value (value.SynonymDef id text one) qualifiers)
    unfolding read_synonym_type
    synonym_type-is marks blanks texts more id text one is spaces q s =
        let rest = blanks ++ (texts ++ (more ++ tail)) in
        let whole : before ++ ((marks ++ blanks ++ texts ++ more) ++ tail) ≡ before ++ (marks ++ rest) = simp append_assoc in
        ap read_synonym_type whole
        ∙ (on-with (want_word (before ++ (marks ++ rest))) (λ (word : Two). next (quoted_at word.1) (λ (text : Two). next (type_scope_at text.1) (λ (said : TypeScope). ended said.1 (value.SynonymDef (read_as word.0) (read_as text.0) said.0)))) (marks, rest) (want-finds (before ++ (marks ++ rest)) marks rest (after-word marks blanks texts more id text is spaces q))
        ∙ (on-with (quoted_at rest) (λ (text : Two). next (type_scope_at text.1) (λ (said : TypeScope). ended said.1 (value.SynonymDef (read_as marks) (read_as text.0) said.0))) (q.inside, more ++ tail) (quoted-is-read blanks texts (more ++ tail) text spaces q)
        ∙ (on-with (type_scope_at (more ++ tail)) (λ (said : TypeScope). ended said.1 (value.SynonymDef (read_as marks) (read_as q.inside) said.0)) (one, tail) (type_scope-is more one s)
        ∙ (ends (value.SynonymDef (read_as marks) (read_as q.inside) one) ∙ two-told (λ a b. value.SynonymDef a b one) (read_as marks) (read_as q.inside) id text is.read q.read))))

    -- runs of characters
    ending-stops : (at_quote : Bool) → stops_run at_quote ending ≡ true
    ending-stops at_quote = or_left (is_some (ending_at ending)) (at_quote && is_some (behind_sign 34 ending)) (ap is_some (ending-finds ending qualifiers is_ending))

    text-is : (marks : List MarkedByte) (text : List ℕ) → IsRun tail marks text → read_text (before ++ (marks ++ tail)) ≡ Ok (qualified_value (value.Text text) qualifiers)
    unfolding read_text
    text-is marks text is =
        let t = text-at false before marks between ending blank_before is.trimmed is.free blank (λ e. cc) (ending-stops false) (ending-begins is_space ending qualifiers is_ending refl refl) (λ e. cc) in
        ap (λ (r : Two). next (wanted syntax.Trailing (ending_at r.1)) (λ (qualifiers : List Qualifier). Ok (qualified_value (value.Text (read_as (trim_end is_space r.0))) qualifiers))) t.found
        ∙ (ap (λ o. next (wanted syntax.Trailing o) (λ (qualifiers : List Qualifier). Ok (qualified_value (value.Text (read_as (trim_end is_space t.run))) qualifiers))) (ending-finds ending qualifiers is_ending)
        ∙ told value.Text (read_as (trim_end is_space t.run)) text (ap read_as t.trimmed ∙ is.read))

    -- the run of an xref, and then what goes by its end
    xref-run : (marks blanks rest : List MarkedByte) (id : List ℕ) → 0 < length marks → AllPass is_quoted_mark marks → IsRun (blanks ++ rest) marks id → AreBlanks blanks → stops_run true rest ≡ true → Stops is_space rest
        → read_xref (before ++ (marks ++ (blanks ++ rest))) ≡ found {B = Answer QualifiedValue} (ending_at rest) (labelled id rest) (λ (qualifiers : List Qualifier). Ok (qualified_value (xref id None) qualifiers))
    unfolding read_xref
    xref-run marks blanks rest id some each is spaces stopped begins =
        let t = text-at true before marks blanks rest blank_before is.trimmed is.free spaces (λ e. each) stopped begins (λ e. All-weaker (λ mark. is_space mark ≡ true) (λ mark. is_quoted_mark mark ≡ true) space-quoted blanks spaces) in
        ap (λ (r : Two). cond {A = Answer QualifiedValue} (length r.0 == 0) (Err syntax.NoValue) (found {B = Answer QualifiedValue} (ending_at r.1) (labelled (read_as (trim_end is_space r.0)) r.1) (λ (qualifiers : List Qualifier). Ok (qualified_value (xref (read_as (trim_end is_space r.0)) None) qualifiers)))) t.found
        ∙ (ap (λ b. cond {A = Answer QualifiedValue} b (Err syntax.NoValue) (found {B = Answer QualifiedValue} (ending_at rest) (labelled (read_as (trim_end is_space t.run)) rest) (λ (qualifiers : List Qualifier). Ok (qualified_value (xref (read_as (trim_end is_space t.run)) None) qualifiers)))) (ne_eqb (length t.run) 0 (λ e. let more = t.some some in omega (arith, e, more)))
        ∙ ap (λ (l : List ℕ). found {B = Answer QualifiedValue} (ending_at rest) (labelled l rest) (λ (qualifiers : List Qualifier). Ok (qualified_value (xref l None) qualifiers))) (ap read_as t.trimmed ∙ is.read))

    xref-same : (one : Xref) (label : Option (List ℕ)) → label ≡ one.label → ◌≡◌ {A = Answer QualifiedValue} (Ok (qualified_value (xref one.id label) qualifiers)) (Ok (qualified_value (value.XrefValue one) qualifiers))
    xref-same one label e = ap (λ l. Ok (qualified_value (xref one.id l) qualifiers)) e

    unlabelled-is : (marks blanks : List MarkedByte) (one : Xref) → 0 < length marks → AllPass is_quoted_mark marks → IsRun (blanks ++ [] ++ tail) marks one.id → AreBlanks blanks → None ≡ one.label → read_xref (before ++ ((marks ++ blanks ++ []) ++ tail)) ≡ Ok (qualified_value (value.XrefValue one) qualifiers)
    unlabelled-is marks blanks one some each is spaces none =
        let all = blanks ++ between in
        let whole : before ++ ((marks ++ blanks ++ []) ++ tail) ≡ before ++ (marks ++ (all ++ ending)) = simp (append_assoc, append-nil) in
        let joined : blanks ++ [] ++ tail ≡ all ++ ending = simp (append_assoc, append-nil) in
        let run = subst (λ (l : List MarkedByte). IsRun l marks one.id) joined is in
        ap read_xref whole
        ∙ (xref-run marks all ending one.id some each run (pass-append is_space blanks between spaces blank) (ending-stops true) (ending-begins is_space ending qualifiers is_ending refl refl)
        ∙ (ap (λ o. found {B = Answer QualifiedValue} o (labelled one.id ending) (λ (qualifiers : List Qualifier). Ok (qualified_value (xref one.id None) qualifiers))) (ending-finds ending qualifiers is_ending)
        ∙ xref-same one None none))

    no-ending-there : (inside : List MarkedByte) → ending_at (quote ∷ inside) ≡ None
    unfolding ending_at
    no-ending-there inside = refl

    labelled-is : (marks blanks more : List MarkedByte) (one : Xref) (text : List ℕ) → 0 < length marks → AllPass is_quoted_mark marks → IsRun (blanks ++ more ++ tail) marks one.id → AreBlanks blanks → IsQuoted more text → Some text ≡ one.label → read_xref (before ++ ((marks ++ blanks ++ more) ++ tail)) ≡ Ok (qualified_value (value.XrefValue one) qualifiers)
    labelled-is marks blanks more one text some each is spaces q same =
        let rest = more ++ tail in
        let inside = q.inside ++ quote ∷ tail in
        let at : rest ≡ quote ∷ inside = ap (λ l. l ++ tail) q.whole ∙ quoted-rest q.inside tail in
        let none : ending_at rest ≡ None = ap ending_at at ∙ no-ending-there inside in
        let sign : behind_sign 34 rest ≡ Some inside = ap (behind_sign 34) at in
        let stopped : stops_run true rest ≡ true = or_right (is_some (ending_at rest)) (is_some (behind_sign 34 rest)) (ap is_some sign) in
        let run = subst (λ (l : List MarkedByte). IsRun l marks one.id) (append_assoc blanks more tail) is in
        ap read_xref (two-whole marks blanks more)
        ∙ (xref-run marks blanks rest one.id some each run spaces stopped (subst (Stops is_space) (sym at) refl)
        ∙ (ap (λ o. found {B = Answer QualifiedValue} o (labelled one.id rest) (λ (qualifiers : List Qualifier). Ok (qualified_value (xref one.id None) qualifiers))) none
        ∙ (on-with (quoted_at rest) (λ (label : Two). ended label.1 (xref one.id (Some (read_as label.0)))) (q.inside, tail) (quoted-is-read [] more tail text (pass-nil is_space) q)
        ∙ (ends (xref one.id (Some (read_as q.inside))) ∙ xref-same one (Some (read_as q.inside)) (ap Some q.read ∙ same)))))

    xref-is : (marks blanks more : List MarkedByte) (one : Xref) (o : Option (List ℕ)) → o ≡ one.label → 0 < length marks → AllPass is_quoted_mark marks → IsRun (blanks ++ more ++ tail) marks one.id → AreBlanks blanks → IsLabel more o → read_xref (before ++ ((marks ++ blanks ++ more) ++ tail)) ≡ Ok (qualified_value (value.XrefValue one) qualifiers)
    xref-is marks blanks more one None same some each is spaces nil =
        ap (λ l. read_xref (before ++ ((marks ++ blanks ++ l) ++ tail))) nil ∙ unlabelled-is marks blanks one some each (subst (λ l. IsRun (blanks ++ l ++ tail) marks one.id) nil is) spaces same
    xref-is marks blanks more one (Some text) same some each is spaces q = labelled-is marks blanks more one text some each is spaces q same

    pub value-is : (shape : ValueShape) (marks : List MarkedByte) (one : Value) → IsValue tail shape marks one → read_marks shape (before ++ (marks ++ tail)) ≡ Ok (qualified_value one qualifiers)
    value-is _ _ _ (IsValue.text marks text is) = text-is marks text is
    value-is _ _ _ (IsValue.id marks word is) = id-is marks word is
    value-is _ _ _ (IsValue.pair marks blanks others first second one some spaces two) = pair-is marks blanks others first second one some spaces two
    value-is _ _ _ (IsValue.class marks word is) = class-is marks word is
    value-is _ _ _ (IsValue.restriction marks blanks others first second one some spaces two) = restriction-is marks blanks others first second one some spaces two
    value-is _ _ _ (IsValue.truth marks truth is) = truth-is-read marks truth is
    value-is _ _ _ (IsValue.definition marks more text xrefs q are) = definition-is marks more text xrefs q are
    value-is _ _ _ (IsValue.synonym marks scopes more text one type xrefs q said are) = synonym-is marks scopes more text one type xrefs q said are
    value-is _ _ _ (IsValue.xref marks blanks more one some each is spaces label) = xref-is marks blanks more one one.label refl some each is spaces label
    value-is _ _ _ (IsValue.literal marks blanks texts more relation text datatype is spaces q m) = literal-is marks blanks texts more relation text datatype is spaces q m
    value-is _ _ _ (IsValue.link marks blanks others relation target one some spaces two) = link-is marks blanks others relation target one some spaces two
    value-is _ _ _ (IsValue.subset marks blanks texts id text is spaces q) = subset-is marks blanks texts id text is spaces q
    value-is _ _ _ (IsValue.synonym_type marks blanks texts more id text one is spaces q s) = synonym_type-is marks blanks texts more id text one is spaces q s
