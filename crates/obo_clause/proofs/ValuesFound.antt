-- What is read behind a colon is a value in the shape of its tag, with an ending behind it.
use Rattle.std.proofs.Common.{◌≡◌, ℕ, zero, suc, ◌<◌, ◌==◌, Bool, true, false, cond, List, [], ◌∷◌, ◌++◌, Option, Some, None, Ok, Err, length, refl, sym, ap, subst, ◌∙◌, arith}
use Rattle.std.specs.Prelude.{unwrap_or}
use Rattle.std.specs.List.{AllPass}
use Rattle.std.proofs.lemmas.List.{append_assoc, append-nil}
use Rattle.obo_tags.specs.declared.kind.ValueShape.{ValueShape}
use Rattle.obo_tags.specs.declared.kind.ValueShape.TheVariants as shapes
use Rattle.obo_clause.specs.declared.clause.Qualifier.{Qualifier}
use Rattle.obo_clause.specs.declared.clause.Scope.{Scope}
use Rattle.obo_clause.specs.declared.clause.Scope.TheVariants as scope
use Rattle.obo_clause.specs.declared.clause.Value.{Value}
use Rattle.obo_clause.specs.declared.clause.Value.TheVariants as value
use Rattle.obo_clause.specs.declared.line.SyntaxKind.TheVariants as syntax
use Rattle.obo_clause.specs.declared.clause.QualifiedValue.{QualifiedValue}
use Rattle.obo_clause.specs.Faults.{Stops}
use Rattle.obo_clause.specs.Grammar.{AreBlanks, IsEnding, IsFree}
use Rattle.obo_clause.specs.Marks.{MarkedByte, read_as}
use Rattle.obo_clause.specs.Reading.{Answer, behind_blanks, behind_sign, ending_at, found, free_run, list_at, next, quoted_at, trim_end, wanted, word_at}
use Rattle.obo_clause.specs.ReadingLines.{Scoped, qualified_value, datatype_of, ended, labelled, may_have_word, read_bool, read_definition, read_id, read_id_or_pair, read_link, read_literal, read_pair, read_property, read_subset, read_synonym, read_synonym_type, read_text, read_xref, scope_of, scoped_at, truth_of, type_behind, type_scope_at, want_truth, want_word, xref}
use Rattle.obo_clause.specs.Spelling.{IsMoreList, IsMoreWord, IsScoped, IsSecondWord, IsTypeScope, IsValue, scope_word, text_datatype}
use Rattle.obo_clause.specs.Vocabulary.{is_quoted_mark, is_space, list_close, list_open, quote}
use Rattle.obo_clause.proofs.EndingLemmas.{ending-found}
use Rattle.obo_clause.proofs.ListLemmas.{ListForm, list-found}
use Rattle.obo_clause.proofs.RunLemmas.{pass-append, pass-head, pass-left, pass-nil}
use Rattle.obo_clause.proofs.RunningText.{text-read}
use Rattle.obo_clause.proofs.SlotLemmas.{Listed}
use Rattle.obo_clause.proofs.TailLemmas.{Tail, ended-ok, scope-is, scope-missing, spaced, truth-is, want-found, went-on}
use Rattle.obo_clause.proofs.WordLemmas.{HasQuoted, HasRun, Two, quoted-found, quoted-is, quoted_marks, run-word, same-ok, wanted-found, word-found}

-- blanks, a value, blanks and an ending
pub record Reads (shape : ValueShape) (marks : List MarkedByte) (one : QualifiedValue) : Type 0 where
  pub before : List MarkedByte
  pub marks_read : List MarkedByte
  pub between : List MarkedByte
  pub ending : List MarkedByte
  pub whole : marks ≡ before ++ (marks_read ++ (between ++ ending))
  pub blank_before : AreBlanks before
  pub is : IsValue (between ++ ending) shape marks_read one.value
  pub blank_between : AreBlanks between
  pub ended : IsEnding ending one.qualifiers

reads-of : (shape : ValueShape) (marks before part rest : List MarkedByte) (read : Value) (one : QualifiedValue) → marks ≡ before ++ (part ++ rest) → AreBlanks before → ((behind : List MarkedByte) → IsValue behind shape part read) → Tail rest read one → Reads shape marks one
reads-of shape marks before part rest read one whole blank is tail = record {
  before = before;
  marks_read = part;
  between = tail.between;
  ending = tail.ending;
  whole = whole ∙ ap (λ l. before ++ (part ++ l)) tail.whole;
  blank_before = blank;
  is = subst (IsValue (tail.between ++ tail.ending) shape part) tail.same (is (tail.between ++ tail.ending));
  blank_between = tail.blank;
  ended = tail.is;
}

-- ---- words

pub id-reads : (marks : List MarkedByte) (one : QualifiedValue) → read_id marks ≡ Ok one → Reads shapes.Id marks one
unfolding read_id
id-reads marks one h =
    let n = went-on (want_word marks) (λ (word : Two). ended word.1 (value.Id (read_as word.0))) one h in
    let has = want-found marks n.got n.found in
    reads-of shapes.Id marks has.blanks n.got.0 n.got.1 (value.Id (read_as n.got.0)) one has.whole has.blank (λ behind. IsValue.id n.got.0 (read_as n.got.0) (run-word marks n.got.0 n.got.1 has)) (ended-ok n.got.1 (value.Id (read_as n.got.0)) one n.on)

two-words : (marks run rest second more : List MarkedByte) → (first : HasRun marks run rest) (has : HasRun rest second more) → marks ≡ first.blanks ++ ((run ++ has.blanks ++ second) ++ more)
two-words marks run rest second more first has = first.whole ∙ (ap (λ l. first.blanks ++ (run ++ l)) has.whole ∙ simp append_assoc)

pub pair-reads : (marks : List MarkedByte) (one : QualifiedValue) → read_pair marks ≡ Ok one → Reads shapes.Pair marks one
unfolding read_pair
pair-reads marks one h =
    let n = went-on (want_word marks) (λ (word : Two). next (want_word word.1) (λ (second : Two). ended second.1 (value.Pair (read_as word.0) (read_as second.0)))) one h in
    let m = went-on (want_word n.got.1) (λ (second : Two). ended second.1 (value.Pair (read_as n.got.0) (read_as second.0))) one n.on in
    let first = want-found marks n.got n.found in
    let has = want-found n.got.1 m.got m.found in
    reads-of shapes.Pair marks first.blanks (n.got.0 ++ has.blanks ++ m.got.0) m.got.1 (value.Pair (read_as n.got.0) (read_as m.got.0)) one (two-words marks n.got.0 n.got.1 m.got.0 m.got.1 first has) first.blank
    (λ behind. IsValue.pair n.got.0 has.blanks m.got.0 (read_as n.got.0) (read_as m.got.0) (run-word marks n.got.0 n.got.1 first) (spaced marks n.got.0 n.got.1 m.got.0 m.got.1 first has) has.blank (run-word n.got.1 m.got.0 m.got.1 has))
    (ended-ok m.got.1 (value.Pair (read_as n.got.0) (read_as m.got.0)) one m.on)

one-or-two : (marks : List MarkedByte) (word : Two) (one : QualifiedValue) (o : Option Two) → word_at word.1 ≡ o → HasRun marks word.0 word.1 → found {B = Answer QualifiedValue} o (ended word.1 (value.Id (read_as word.0))) (λ (second : Two). ended second.1 (value.Pair (read_as word.0) (read_as second.0))) ≡ Ok one → Reads shapes.IdOrPair marks one
one-or-two marks word one None e first h =
    reads-of shapes.IdOrPair marks first.blanks word.0 word.1 (value.Id (read_as word.0)) one first.whole first.blank (λ behind. IsValue.class word.0 (read_as word.0) (run-word marks word.0 word.1 first)) (ended-ok word.1 (value.Id (read_as word.0)) one h)
one-or-two marks word one (Some second) e first h =
    let has = word-found word.1 second.0 second.1 e in
    reads-of shapes.IdOrPair marks first.blanks (word.0 ++ has.blanks ++ second.0) second.1 (value.Pair (read_as word.0) (read_as second.0)) one (two-words marks word.0 word.1 second.0 second.1 first has) first.blank
    (λ behind. IsValue.restriction word.0 has.blanks second.0 (read_as word.0) (read_as second.0) (run-word marks word.0 word.1 first) (spaced marks word.0 word.1 second.0 second.1 first has) has.blank (run-word word.1 second.0 second.1 has))
    (ended-ok second.1 (value.Pair (read_as word.0) (read_as second.0)) one h)

pub id_or_pair-reads : (marks : List MarkedByte) (one : QualifiedValue) → read_id_or_pair marks ≡ Ok one → Reads shapes.IdOrPair marks one
unfolding read_id_or_pair
id_or_pair-reads marks one h =
    let n = went-on (want_word marks) (λ (word : Two). found {B = Answer QualifiedValue} (word_at word.1) (ended word.1 (value.Id (read_as word.0))) (λ (second : Two). ended second.1 (value.Pair (read_as word.0) (read_as second.0)))) one h in
    one-or-two marks n.got one (word_at n.got.1) refl (want-found marks n.got n.found) n.on

pub bool-reads : (marks : List MarkedByte) (one : QualifiedValue) → read_bool marks ≡ Ok one → Reads shapes.Bool marks one
unfolding read_bool
bool-reads marks one h =
    let n = went-on (want_word marks) (λ (word : Two). next (want_truth (read_as word.0)) (λ (truth : Bool). ended word.1 (value.Bool truth))) one h in
    let m = went-on (want_truth (read_as n.got.0)) (λ (truth : Bool). ended n.got.1 (value.Bool truth)) one n.on in
    let has = want-found marks n.got n.found in
    let is = truth-is (read_as n.got.0) m.got (wanted-found syntax.BadBool (truth_of (read_as n.got.0)) m.got m.found) in
    reads-of shapes.Bool marks has.blanks n.got.0 n.got.1 (value.Bool m.got) one has.whole has.blank (λ behind. IsValue.truth n.got.0 m.got (record { some = has.some; each = has.each; read = is })) (ended-ok n.got.1 (value.Bool m.got) one m.on)

-- ---- quoted texts and lists

-- a list, or nothing, and the rest
record MoreList (marks : List MarkedByte) (listed : Listed) : Type 0 where
  part : List MarkedByte
  whole : marks ≡ part ++ listed.1
  is : IsMoreList part listed.0

more-list : (marks : List MarkedByte) (listed : Listed) → ListForm marks listed → MoreList marks listed
more-list marks _ (ListForm.without stops) = record { part = []; whole = refl; is = IsMoreList.nothing }
more-list marks _ (ListForm.list blanks inside rest xrefs whole blank are) = record {
  part = blanks ++ (list_open ∷ (inside ++ list_close ∷ []));
  whole = whole ∙ simp append_assoc;
  is = IsMoreList.list blanks (list_open ∷ (inside ++ list_close ∷ [])) xrefs blank (record { inside = inside; whole = refl; slots = are });
}

quoted-more : (marks inside rest part more : List MarkedByte) → (has : HasQuoted marks inside rest) → rest ≡ part ++ more → marks ≡ has.blanks ++ ((quoted_marks inside ++ part) ++ more)
quoted-more marks inside rest part more has e =
    has.whole ∙ (ap (λ l. has.blanks ++ (quote ∷ (inside ++ quote ∷ l))) e ∙ simp append_assoc)

pub definition-reads : (marks : List MarkedByte) (one : QualifiedValue) → read_definition marks ≡ Ok one → Reads shapes.Def marks one
unfolding read_definition
definition-reads marks one h =
    let n = went-on (quoted_at marks) (λ (text : Two). next (list_at text.1) (λ (list : Listed). ended list.1 (value.Def (read_as text.0) list.0))) one h in
    let m = went-on (list_at n.got.1) (λ (list : Listed). ended list.1 (value.Def (read_as n.got.0) list.0)) one n.on in
    let has = quoted-found marks n.got.0 n.got.1 n.found in
    let list = more-list n.got.1 m.got (list-found n.got.1 m.got m.found) in
    reads-of shapes.Def marks has.blanks (quoted_marks n.got.0 ++ list.part) m.got.1 (value.Def (read_as n.got.0) m.got.0) one (quoted-more marks n.got.0 n.got.1 list.part m.got.1 has list.whole) has.blank
    (λ behind. IsValue.definition (quoted_marks n.got.0) list.part (read_as n.got.0) m.got.0 (quoted-is n.got.0 has.each) list.is)
    (ended-ok m.got.1 (value.Def (read_as n.got.0) m.got.0) one m.on)

-- a scope and a type, and the rest
record ScopedRead (marks : List MarkedByte) (scoped : Scoped) : Type 0 where
  part : List MarkedByte
  whole : marks ≡ part ++ scoped.2
  is : IsScoped part scoped.0 scoped.1

type-step : (marks run rest : List MarkedByte) (one : Scope) (o : Option Two) → word_at rest ≡ o → (has : HasRun marks run rest) → read_as run ≡ scope_word one → ScopedRead marks (found {B = Scoped} o (one, None, rest) (λ (type : Two). (one, Some (read_as type.0), type.1)))
type-step marks run rest one None e has is = record {
  part = has.blanks ++ run ++ [];
  whole = has.whole ∙ simp (append_assoc, append-nil);
  is = IsScoped.scoped has.blanks run [] one None has.blank (record { some = has.some; each = has.each; read = is }) IsSecondWord.nothing;
}
type-step marks run rest one (Some type) e has is =
    let second = word-found rest type.0 type.1 e in
    record {
      part = has.blanks ++ run ++ (second.blanks ++ type.0);
      whole = has.whole ∙ (ap (λ l. has.blanks ++ (run ++ l)) second.whole ∙ simp append_assoc);
      is = IsScoped.scoped has.blanks run (second.blanks ++ type.0) one (Some (read_as type.0)) has.blank (record { some = has.some; each = has.each; read = is })
          (IsSecondWord.word second.blanks type.0 (read_as type.0) (spaced marks run rest type.0 type.1 has second) second.blank (run-word rest type.0 type.1 second));
    }

scope-read : (marks : List MarkedByte) (word : Two) (o : Option Scope) → scope_of (read_as word.0) ≡ o → HasRun marks word.0 word.1 → ScopedRead marks (found {B = Scoped} o (scope.Related, Some (read_as word.0), word.1) (λ (one : Scope). type_behind one word.1))
scope-read marks word None e has = record {
  part = has.blanks ++ word.0;
  whole = has.whole ∙ simp append_assoc;
  is = IsScoped.typed has.blanks word.0 (read_as word.0) has.blank (run-word marks word.0 word.1 has) (scope-missing (read_as word.0) e);
}
scope-read marks word (Some one) e has =
    type-step marks word.0 word.1 one (word_at word.1) refl has (scope-is (read_as word.0) one e)

scoped-step : (marks : List MarkedByte) (o : Option Two) → word_at marks ≡ o → ScopedRead marks (found {B = Scoped} o (scope.Related, None, marks) (λ (word : Two). found {B = Scoped} (scope_of (read_as word.0)) (scope.Related, Some (read_as word.0), word.1) (λ (one : Scope). type_behind one word.1)))
scoped-step marks None e = record { part = []; whole = refl; is = IsScoped.nothing }
scoped-step marks (Some word) e = scope-read marks word (scope_of (read_as word.0)) refl (word-found marks word.0 word.1 e)

scoped-read : (marks : List MarkedByte) → ScopedRead marks (scoped_at marks)
unfolding scoped_at
scoped-read marks = scoped-step marks (word_at marks) refl

pub synonym-reads : (marks : List MarkedByte) (one : QualifiedValue) → read_synonym marks ≡ Ok one → Reads shapes.Synonym marks one
unfolding read_synonym
synonym-reads marks one h =
    let n = went-on (quoted_at marks) (λ (text : Two). next (list_at (scoped_at text.1).2) (λ (list : Listed). ended list.1 (value.Synonym (read_as text.0) (scoped_at text.1).0 (scoped_at text.1).1 list.0))) one h in
    let scoped = scoped_at n.got.1 in
    let m = went-on (list_at scoped.2) (λ (list : Listed). ended list.1 (value.Synonym (read_as n.got.0) scoped.0 scoped.1 list.0)) one n.on in
    let has = quoted-found marks n.got.0 n.got.1 n.found in
    let said = scoped-read n.got.1 in
    let list = more-list scoped.2 m.got (list-found scoped.2 m.got m.found) in
    let whole : n.got.1 ≡ (said.part ++ list.part) ++ m.got.1 = said.whole ∙ (ap (λ l. said.part ++ l) list.whole ∙ simp append_assoc) in
    let value_is = value.Synonym (read_as n.got.0) scoped.0 scoped.1 m.got.0 in
    reads-of shapes.Synonym marks has.blanks (quoted_marks n.got.0 ++ said.part ++ list.part) m.got.1 value_is one (quoted-more marks n.got.0 n.got.1 (said.part ++ list.part) m.got.1 has whole ∙ simp append_assoc) has.blank
    (λ behind. IsValue.synonym (quoted_marks n.got.0) said.part list.part (read_as n.got.0) scoped.0 scoped.1 m.got.0 (quoted-is n.got.0 has.each) said.is list.is)
    (ended-ok m.got.1 value_is one m.on)

-- ---- properties

word-quoted : (marks run rest inside more : List MarkedByte) → (first : HasRun marks run rest) (has : HasQuoted rest inside more) → marks ≡ first.blanks ++ ((run ++ has.blanks ++ quoted_marks inside) ++ more)
word-quoted marks run rest inside more first has =
    first.whole ∙ (ap (λ l. first.blanks ++ (run ++ l)) has.whole ∙ simp append_assoc)

-- an optional word
record MoreWord (marks : List MarkedByte) (o : Option (List MarkedByte)) (rest : List MarkedByte) : Type 0 where
  part : List MarkedByte
  datatype : Option (List ℕ)
  whole : marks ≡ part ++ rest
  is : IsMoreWord part datatype
  same : datatype_of o ≡ unwrap_or datatype text_datatype

more-step : (marks : List MarkedByte) (o : Option Two) → word_at marks ≡ o → let r = found {B = Option (List MarkedByte) × List MarkedByte} o (None, marks) (λ (word : Two). (Some word.0, word.1)) in MoreWord marks r.0 r.1
more-step marks None e = record { part = []; datatype = None; whole = refl; is = IsMoreWord.nothing; same = refl }
more-step marks (Some word) e =
    let has = word-found marks word.0 word.1 e in
    record {
      part = has.blanks ++ word.0;
      datatype = Some (read_as word.0);
      whole = has.whole ∙ simp append_assoc;
      is = IsMoreWord.word has.blanks word.0 (read_as word.0) has.blank (run-word marks word.0 word.1 has);
      same = refl;
    }

more-word : (marks : List MarkedByte) → MoreWord marks (may_have_word marks).0 (may_have_word marks).1
more-word marks = more-step marks (word_at marks) refl

literal-reads : (marks : List MarkedByte) (word : Two) (one : QualifiedValue) → HasRun marks word.0 word.1 → read_literal (read_as word.0) word.1 ≡ Ok one → Reads shapes.Property marks one
unfolding read_literal
literal-reads marks word one first h =
    let n = went-on (quoted_at word.1) (λ (text : Two). ended (may_have_word text.1).1 (value.Literal (read_as word.0) (read_as text.0) (datatype_of (may_have_word text.1).0))) one h in
    let has = quoted-found word.1 n.got.0 n.got.1 n.found in
    let more = more-word n.got.1 in
    let rest = (may_have_word n.got.1).1 in
    let read = value.Literal (read_as word.0) (read_as n.got.0) (datatype_of (may_have_word n.got.1).0) in
    let part = word.0 ++ has.blanks ++ quoted_marks n.got.0 ++ more.part in
    let whole : marks ≡ first.blanks ++ (part ++ rest) = word-quoted marks word.0 word.1 n.got.0 n.got.1 first has ∙ (ap (λ l. first.blanks ++ ((word.0 ++ has.blanks ++ quoted_marks n.got.0) ++ l)) more.whole ∙ simp append_assoc) in
    reads-of shapes.Property marks first.blanks part rest read one whole first.blank
    (λ behind. subst (IsValue behind shapes.Property part) (ap (λ d. value.Literal (read_as word.0) (read_as n.got.0) d) (sym more.same)) (IsValue.literal word.0 has.blanks (quoted_marks n.got.0) more.part (read_as word.0) (read_as n.got.0) more.datatype (run-word marks word.0 word.1 first) has.blank (quoted-is n.got.0 has.each) more.is))
    (ended-ok rest read one n.on)

link-reads : (marks : List MarkedByte) (word : Two) (one : QualifiedValue) → HasRun marks word.0 word.1 → read_link (read_as word.0) word.1 ≡ Ok one → Reads shapes.Property marks one
unfolding read_link
link-reads marks word one first h =
    let m = went-on (want_word word.1) (λ (target : Two). ended target.1 (value.Link (read_as word.0) (read_as target.0))) one h in
    let has = want-found word.1 m.got m.found in
    reads-of shapes.Property marks first.blanks (word.0 ++ has.blanks ++ m.got.0) m.got.1 (value.Link (read_as word.0) (read_as m.got.0)) one (two-words marks word.0 word.1 m.got.0 m.got.1 first has) first.blank
    (λ behind. IsValue.link word.0 has.blanks m.got.0 (read_as word.0) (read_as m.got.0) (run-word marks word.0 word.1 first) (spaced marks word.0 word.1 m.got.0 m.got.1 first has) has.blank (run-word word.1 m.got.0 m.got.1 has))
    (ended-ok m.got.1 (value.Link (read_as word.0) (read_as m.got.0)) one m.on)

object-step : (marks : List MarkedByte) (word : Two) (one : QualifiedValue) (o : Option (List MarkedByte)) → HasRun marks word.0 word.1 → found {B = Answer QualifiedValue} o (read_link (read_as word.0) word.1) (λ (_ : List MarkedByte). read_literal (read_as word.0) word.1) ≡ Ok one → Reads shapes.Property marks one
object-step marks word one None first h = link-reads marks word one first h
object-step marks word one (Some inside) first h = literal-reads marks word one first h

pub property-reads : (marks : List MarkedByte) (one : QualifiedValue) → read_property marks ≡ Ok one → Reads shapes.Property marks one
unfolding read_property
property-reads marks one h =
    let n = went-on (want_word marks) (λ (word : Two). found {B = Answer QualifiedValue} (behind_sign 34 (behind_blanks word.1)) (read_link (read_as word.0) word.1) (λ (_ : List MarkedByte). read_literal (read_as word.0) word.1)) one h in
    object-step marks n.got one (behind_sign 34 (behind_blanks n.got.1)) (want-found marks n.got n.found) n.on

-- ---- subsets and types of synonyms

pub subset-reads : (marks : List MarkedByte) (one : QualifiedValue) → read_subset marks ≡ Ok one → Reads shapes.SubsetDef marks one
unfolding read_subset
subset-reads marks one h =
    let n = went-on (want_word marks) (λ (word : Two). next (quoted_at word.1) (λ (text : Two). ended text.1 (value.SubsetDef (read_as word.0) (read_as text.0)))) one h in
    let m = went-on (quoted_at n.got.1) (λ (text : Two). ended text.1 (value.SubsetDef (read_as n.got.0) (read_as text.0))) one n.on in
    let first = want-found marks n.got n.found in
    let has = quoted-found n.got.1 m.got.0 m.got.1 m.found in
    reads-of shapes.SubsetDef marks first.blanks (n.got.0 ++ has.blanks ++ quoted_marks m.got.0) m.got.1 (value.SubsetDef (read_as n.got.0) (read_as m.got.0)) one (word-quoted marks n.got.0 n.got.1 m.got.0 m.got.1 first has) first.blank
    (λ behind. IsValue.subset n.got.0 has.blanks (quoted_marks m.got.0) (read_as n.got.0) (read_as m.got.0) (run-word marks n.got.0 n.got.1 first) has.blank (quoted-is m.got.0 has.each))
    (ended-ok m.got.1 (value.SubsetDef (read_as n.got.0) (read_as m.got.0)) one m.on)

-- an optional scope
abbrev pub TypeScope : Type 0
TypeScope = Option Scope × List MarkedByte

record TypeScopeRead (marks : List MarkedByte) (read : TypeScope) : Type 0 where
  part : List MarkedByte
  whole : marks ≡ part ++ read.1
  is : IsTypeScope part read.0

scope-wanted : (marks : List MarkedByte) (word : Two) (read : TypeScope) (o : Option Scope) → scope_of (read_as word.0) ≡ o → HasRun marks word.0 word.1 → next {A = Scope} {B = TypeScope} (wanted syntax.Trailing o) (λ (one : Scope). Ok (Some one, word.1)) ≡ Ok read → TypeScopeRead marks read
scope-wanted marks word read None e has h = cc
scope-wanted marks word read (Some one) e has h =
    let is : TypeScopeRead marks (Some one, word.1) = record {
      part = has.blanks ++ word.0;
      whole = has.whole ∙ simp append_assoc;
      is = IsTypeScope.scoped has.blanks word.0 one has.blank (record { some = has.some; each = has.each; read = scope-is (read_as word.0) one e });
    } in
    subst (TypeScopeRead marks) (same-ok (Some one, word.1) read h) is

type_scope-step : (marks : List MarkedByte) (read : TypeScope) (o : Option Two) → word_at marks ≡ o → found {B = Answer TypeScope} o (Ok (None, marks)) (λ (word : Two). next {A = Scope} {B = TypeScope} (wanted syntax.Trailing (scope_of (read_as word.0))) (λ (one : Scope). Ok (Some one, word.1))) ≡ Ok read → TypeScopeRead marks read
type_scope-step marks read None e h =
    let is : TypeScopeRead marks (None, marks) = record { part = []; whole = refl; is = IsTypeScope.nothing } in
    subst (TypeScopeRead marks) (same-ok (None, marks) read h) is
type_scope-step marks read (Some word) e h =
    scope-wanted marks word read (scope_of (read_as word.0)) refl (word-found marks word.0 word.1 e) h

type_scope-read : (marks : List MarkedByte) (read : TypeScope) → type_scope_at marks ≡ Ok read → TypeScopeRead marks read
unfolding type_scope_at
type_scope-read marks read h = type_scope-step marks read (word_at marks) refl h

pub synonym_type-reads : (marks : List MarkedByte) (one : QualifiedValue) → read_synonym_type marks ≡ Ok one → Reads shapes.SynonymDef marks one
unfolding read_synonym_type
synonym_type-reads marks one h =
    let n = went-on (want_word marks) (λ (word : Two). next (quoted_at word.1) (λ (text : Two). next (type_scope_at text.1) (λ (said : TypeScope). ended said.1 (value.SynonymDef (read_as word.0) (read_as text.0) said.0)))) one h in
    let m = went-on (quoted_at n.got.1) (λ (text : Two). next (type_scope_at text.1) (λ (said : TypeScope). ended said.1 (value.SynonymDef (read_as n.got.0) (read_as text.0) said.0))) one n.on in
    let k = went-on (type_scope_at m.got.1) (λ (said : TypeScope). ended said.1 (value.SynonymDef (read_as n.got.0) (read_as m.got.0) said.0)) one m.on in
    let first = want-found marks n.got n.found in
    let has = quoted-found n.got.1 m.got.0 m.got.1 m.found in
    let said = type_scope-read m.got.1 k.got k.found in
    let part = n.got.0 ++ has.blanks ++ quoted_marks m.got.0 ++ said.part in
    let whole : marks ≡ first.blanks ++ (part ++ k.got.1) = word-quoted marks n.got.0 n.got.1 m.got.0 m.got.1 first has ∙ (ap (λ l. first.blanks ++ ((n.got.0 ++ has.blanks ++ quoted_marks m.got.0) ++ l)) said.whole ∙ simp append_assoc) in
    reads-of shapes.SynonymDef marks first.blanks part k.got.1 (value.SynonymDef (read_as n.got.0) (read_as m.got.0) k.got.0) one whole first.blank
    (λ behind. IsValue.synonym_type n.got.0 has.blanks (quoted_marks m.got.0) said.part (read_as n.got.0) (read_as m.got.0) k.got.0 (run-word marks n.got.0 n.got.1 first) has.blank (quoted-is m.got.0 has.each) said.is)
    (ended-ok k.got.1 (value.SynonymDef (read_as n.got.0) (read_as m.got.0) k.got.0) one k.on)

-- ---- runs of characters

pub text-reads : (marks : List MarkedByte) (one : QualifiedValue) → read_text marks ≡ Ok one → Reads shapes.Text marks one
unfolding read_text
text-reads marks one h =
    let r = free_run false (behind_blanks marks) in
    let text = value.Text (read_as (trim_end is_space r.0)) in
    let n = went-on (wanted syntax.Trailing (ending_at r.1)) (λ (qualifiers : List Qualifier). Ok (qualified_value text qualifiers)) one h in
    let same = same-ok (qualified_value text n.got) one n.on in
    let t = text-read false marks in
    subst (Reads shapes.Text marks) same (record {
      before = t.before;
      marks_read = trim_end is_space r.0;
      between = t.between;
      ending = r.1;
      whole = t.whole;
      blank_before = t.blank_before;
      is = IsValue.text (trim_end is_space r.0) (read_as (trim_end is_space r.0)) (record { free = t.free; trimmed = t.trimmed; read = refl });
      blank_between = t.blank_between;
      ended = ending-found r.1 n.got (wanted-found syntax.Trailing (ending_at r.1) n.got n.found);
    })

-- a run that is not empty and begins with no blank is not empty without its last blanks
some-left : (run blanks : List MarkedByte) (kept : List MarkedByte) → run ≡ kept ++ blanks → Stops is_space run → AreBlanks blanks → 0 < length run → 0 < length kept
some-left run blanks (x ∷ kept) whole stops blank some = omega arith
some-left run [] [] whole stops blank some = absurd (omega (arith, ap length whole))
some-left run (x ∷ blanks) [] whole stops blank some =
    absurd (both (subst (Stops is_space) whole stops) (first blank))
  where
    first : AreBlanks (x ∷ blanks) → is_space x ≡ true
    first all = pass-head is_space x blanks all

    both : is_space x ≡ false → is_space x ≡ true → ⊥
    both a b = let e : false ≡ true = sym a ∙ b in cc

label-reads : (marks : List MarkedByte) (one : QualifiedValue) → let r = free_run true (behind_blanks marks) in 0 < length r.0 → labelled (read_as (trim_end is_space r.0)) r.1 ≡ Ok one → Reads shapes.XrefShape marks one
label-reads marks one some h =
    let r = free_run true (behind_blanks marks) in
    let id = trim_end is_space r.0 in
    let t = text-read true marks in
    let n = went-on (quoted_at r.1) (λ (label : Two). ended label.1 (xref (read_as id) (Some (read_as label.0)))) one h in
    let has = quoted-found r.1 n.got.0 n.got.1 n.found in
    let tail = ended-ok n.got.1 (xref (read_as id) (Some (read_as n.got.0))) one n.on in
    let blanks = t.between ++ has.blanks in
    let blank = pass-append is_space t.between has.blanks t.blank_between has.blank in
    let label = quoted_marks n.got.0 in
    let rest : t.between ++ r.1 ≡ blanks ++ label ++ (tail.between ++ tail.ending) = ap (λ l. t.between ++ l) (has.whole ∙ ap (λ l. has.blanks ++ (quote ∷ (n.got.0 ++ quote ∷ l))) tail.whole) ∙ simp append_assoc in
    let each = pass-left is_quoted_mark id t.between (subst (AllPass is_quoted_mark) t.split (t.quoted refl)) in
    let is : IsValue (tail.between ++ tail.ending) shapes.XrefShape (id ++ blanks ++ label) (xref (read_as id) (Some (read_as n.got.0))) = IsValue.xref id blanks label (record { id = read_as id; label = Some (read_as n.got.0) }) (some-left r.0 t.between id t.split t.begins t.blank_between some) each (record { free = subst (IsFree id) rest t.free; trimmed = t.trimmed; read = refl }) blank (quoted-is n.got.0 has.each) in
    record {
      before = t.before;
      marks_read = id ++ blanks ++ label;
      between = tail.between;
      ending = tail.ending;
      whole = t.whole ∙ (ap (λ l. t.before ++ (id ++ l)) rest ∙ simp append_assoc);
      blank_before = t.blank_before;
      is = subst (IsValue (tail.between ++ tail.ending) shapes.XrefShape (id ++ blanks ++ label)) tail.same is;
      blank_between = tail.blank;
      ended = tail.is;
    }

unlabelled-reads : (marks : List MarkedByte) (qualifiers : List Qualifier) (one : QualifiedValue) → let r = free_run true (behind_blanks marks) in 0 < length r.0 → ending_at r.1 ≡ Some qualifiers → qualified_value (xref (read_as (trim_end is_space r.0)) None) qualifiers ≡ one → Reads shapes.XrefShape marks one
unlabelled-reads marks qualifiers one some e same =
    let r = free_run true (behind_blanks marks) in
    let id = trim_end is_space r.0 in
    let t = text-read true marks in
    let each = pass-left is_quoted_mark id t.between (subst (AllPass is_quoted_mark) t.split (t.quoted refl)) in
    let is : IsValue (t.between ++ r.1) shapes.XrefShape (id ++ [] ++ []) (xref (read_as id) None) = IsValue.xref id [] [] (record { id = read_as id; label = None }) (some-left r.0 t.between id t.split t.begins t.blank_between some) each (record { free = t.free; trimmed = t.trimmed; read = refl }) (pass-nil is_space) refl in
    subst (Reads shapes.XrefShape marks) same (record {
      before = t.before;
      marks_read = id ++ [] ++ [];
      between = t.between;
      ending = r.1;
      whole = t.whole ∙ simp append-nil;
      blank_before = t.blank_before;
      is = is;
      blank_between = t.blank_between;
      ended = ending-found r.1 qualifiers e;
    })

xref-step : (marks : List MarkedByte) (one : QualifiedValue) (o : Option (List Qualifier)) → let r = free_run true (behind_blanks marks) in ending_at r.1 ≡ o → 0 < length r.0 → found {B = Answer QualifiedValue} o (labelled (read_as (trim_end is_space r.0)) r.1) (λ (qualifiers : List Qualifier). Ok (qualified_value (xref (read_as (trim_end is_space r.0)) None) qualifiers)) ≡ Ok one → Reads shapes.XrefShape marks one
xref-step marks one None e some h = label-reads marks one some h
xref-step marks one (Some qualifiers) e some h =
    unlabelled-reads marks qualifiers one some e (same-ok (qualified_value (xref (read_as (trim_end is_space (free_run true (behind_blanks marks)).0)) None) qualifiers) one h)

run-step : (marks : List MarkedByte) (one : QualifiedValue) (b : Bool) → let r = free_run true (behind_blanks marks) in (length r.0 == 0) ≡ b → cond {A = Answer QualifiedValue} b (Err syntax.NoValue) (found {B = Answer QualifiedValue} (ending_at r.1) (labelled (read_as (trim_end is_space r.0)) r.1) (λ (qualifiers : List Qualifier). Ok (qualified_value (xref (read_as (trim_end is_space r.0)) None) qualifiers))) ≡ Ok one → Reads shapes.XrefShape marks one
run-step marks one true e h = cc
run-step marks one false e h =
    xref-step marks one (ending_at (free_run true (behind_blanks marks)).1) refl (longer (length (free_run true (behind_blanks marks)).0) e) h
  where
    longer : (n : ℕ) → (n == 0) ≡ false → 0 < n
    longer zero e = cc
    longer (suc n) e = omega arith

pub xref-reads : (marks : List MarkedByte) (one : QualifiedValue) → read_xref marks ≡ Ok one → Reads shapes.XrefShape marks one
unfolding read_xref
xref-reads marks one h = run-step marks one (length (free_run true (behind_blanks marks)).0 == 0) refl h
