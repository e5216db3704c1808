-- What is wrong behind a colon: each fault that is read is there, and each that is there is read.
use Rattle.std.proofs.Common.{◌≡◌, ℕ, Bool, List, [], ◌∷◌, ◌++◌, Option, Some, None, Ok, Err, refl, sym, ap, subst, ◌∙◌}
use Rattle.std.proofs.lemmas.List.{append_assoc}
use Rattle.obo_clause.specs.declared.clause.Scope.{Scope}
use Rattle.obo_clause.specs.declared.clause.Scope.TheVariants as scope
use Rattle.obo_clause.specs.declared.clause.Value.TheVariants as value
use Rattle.obo_clause.specs.declared.line.SyntaxKind.{SyntaxKind}
use Rattle.obo_clause.specs.declared.line.SyntaxKind.TheVariants as syntax
use Rattle.obo_clause.specs.declared.clause.QualifiedValue.{QualifiedValue}
use Rattle.obo_clause.specs.Faults.{IsBehindBlanks, MayBeScope, MayHaveList, MayHaveScope, MayHaveWord, Stops, WantsEnd, WantsObject, WantsQuoted, WantsTruth, WantsWord, Wrong}
use Rattle.obo_clause.specs.Marks.{MarkedByte, read_as}
use Rattle.obo_clause.specs.Reading.{Answer, behind_blanks, behind_sign, found, list_at, next, quoted_at, wanted, word_at}
use Rattle.obo_clause.specs.ReadingLines.{Scoped, datatype_of, ended, may_have_word, read_bool, read_definition, read_id, read_id_or_pair, read_link, read_literal, read_pair, read_property, read_subset, read_synonym, read_synonym_type, scope_of, scoped_at, truth_of, type_behind, type_scope_at, want_truth, want_word}
use Rattle.obo_clause.specs.Spelling.{scope_word}
use Rattle.obo_clause.specs.Vocabulary.{is_space, list_close, list_open, quote}
use Rattle.obo_clause.proofs.ListLemmas.{ListForm, list-broken, list-fails, list-finds, list-found, list-without}
use Rattle.obo_clause.proofs.SignLemmas.{behind_sign-found, no_quote, quote_stops}
use Rattle.obo_clause.proofs.SlotLemmas.{Listed}
use Rattle.obo_clause.proofs.TailLemmas.{WentWrong, ended-fails, ended-refuses, on-with, not-on, scope-is, scope-missing, scope-none, scope-of, truth-is, truth-missing, truth-none, truth-of, want-finds, want-found, went-wrong}
use Rattle.obo_clause.proofs.ValuesFound.{TypeScope}
use Rattle.obo_clause.proofs.WordLemmas.{HasQuoted, Two, blanks-at, blanks-of, quoted-endless, quoted-fails, quoted-finds, quoted-found, quoted-is, quoted-missing, quoted-rest, quoted_marks, run-has, wanted-found, wanted-missing, word-finds, word-found, word-missing, word-none, word-run}

-- ---- wanted words

module _ {B : Type 0} (go_on : Two → Answer B) (after : List ℕ → Wrong) where
  pub word-wrong : ((word : Two) (one : SyntaxKind) → go_on word ≡ Err one → after (read_as word.0) word.1 one) → (marks : List MarkedByte) (one : SyntaxKind) → next (want_word marks) go_on ≡ Err one → WantsWord after marks one
  word-wrong later marks one h = go (went-wrong (want_word marks) go_on one h)
    where
      go : WentWrong (want_word marks) go_on one → WantsWord after marks one
      go (WentWrong.at_once e) =
          let m = wanted-missing syntax.NoValue one (word_at marks) e in
          subst (WantsWord after marks) m.1 (WantsWord.missing (word-missing marks m.0))
      go (WentWrong.later word e is) =
          WantsWord.later (read_as word.0) word.1 one (run-has marks word.0 word.1 (want-found marks word e)) (later word one is)

  pub word-refuses : ((word : Two) (one : SyntaxKind) → after (read_as word.0) word.1 one → go_on word ≡ Err one) → (marks : List MarkedByte) (one : SyntaxKind) → WantsWord after marks one → next (want_word marks) go_on ≡ Err one
  word-refuses later marks _ (WantsWord.missing no_word) =
      not-on (want_word marks) go_on syntax.NoValue (ap (wanted syntax.NoValue) (word-none marks no_word))
  word-refuses later marks _ (WantsWord.later word rest one has fails) =
      let r = word-run marks word rest has in
      on-with (want_word marks) go_on (r.run, rest) (want-finds marks r.run rest r.has)
      ∙ later (r.run, rest) one (subst (λ w. after w rest one) (sym r.read) fails)

-- ---- words that may be there

module _ {B : Type 0} (none : Answer B) (some : Two → Answer B) (after : Option (List ℕ) → Wrong) (marks : List MarkedByte) where
  pub may-wrong : ((one : SyntaxKind) → none ≡ Err one → after None marks one) → ((word : Two) (one : SyntaxKind) → some word ≡ Err one → after (Some (read_as word.0)) word.1 one) → (one : SyntaxKind) → found {B = Answer B} (word_at marks) none some ≡ Err one → MayHaveWord after marks one
  may-wrong without later one h = go (word_at marks) refl h
    where
      go : (o : Option Two) → word_at marks ≡ o → found {B = Answer B} o none some ≡ Err one → MayHaveWord after marks one
      go None e h = MayHaveWord.without one (word-missing marks e) (without one h)
      go (Some word) e h = MayHaveWord.later (read_as word.0) word.1 one (run-has marks word.0 word.1 (word-found marks word.0 word.1 e)) (later word one h)

  pub may-refuses : ((one : SyntaxKind) → after None marks one → none ≡ Err one) → ((word : Two) (one : SyntaxKind) → after (Some (read_as word.0)) word.1 one → some word ≡ Err one) → (one : SyntaxKind) → MayHaveWord after marks one → found {B = Answer B} (word_at marks) none some ≡ Err one
  may-refuses without later _ (MayHaveWord.without one no_word fails) =
      ap (λ o. found {B = Answer B} o none some) (word-none marks no_word) ∙ without one fails
  may-refuses without later _ (MayHaveWord.later word rest one has fails) =
      let r = word-run marks word rest has in
      ap (λ o. found {B = Answer B} o none some) (word-finds marks r.run rest r.has)
      ∙ later (r.run, rest) one (subst (λ w. after (Some w) rest one) (sym r.read) fails)

-- what goes on behind a choice goes on behind each
pub through : {A B C : Type 0} (go_on : B → C) (o : Option A) (none : B) (some : A → B) → go_on (found o none some) ≡ found o (go_on none) (λ one. go_on (some one))
through go_on None none some = refl
through go_on (Some one) none some = refl

-- ---- quoted texts

module _ {B : Type 0} (go_on : Two → Answer B) (after : Wrong) where
  pub quoted-wrong : ((text : Two) (one : SyntaxKind) → go_on text ≡ Err one → after text.1 one) → (marks : List MarkedByte) (one : SyntaxKind) → next (quoted_at marks) go_on ≡ Err one → WantsQuoted after marks one
  quoted-wrong later marks one h = go (went-wrong (quoted_at marks) go_on one h)
    where
      go : WentWrong (quoted_at marks) go_on one → WantsQuoted after marks one
      go (WentWrong.at_once e) = quoted-fails after marks one e
      go (WentWrong.later text e is) =
          let has = quoted-found marks text.0 text.1 e in
          let all = quoted-rest text.0 text.1 in
          WantsQuoted.later (quoted_marks text.0) text.1 (read_as text.0) one (record { blanks = has.blanks; whole = has.whole ∙ ap (λ l. has.blanks ++ l) (sym all); blank = has.blank; stops = subst (Stops is_space) (sym all) refl }) (quoted-is text.0 has.each) (later text one is)

  pub quoted-refuses : ((text : Two) (one : SyntaxKind) → after text.1 one → go_on text ≡ Err one) → (marks : List MarkedByte) (one : SyntaxKind) → WantsQuoted after marks one → next (quoted_at marks) go_on ≡ Err one
  quoted-refuses later marks _ (WantsQuoted.missing rest at stops) = not-on (quoted_at marks) go_on syntax.NoQuote (quoted-missing marks rest at stops)
  quoted-refuses later marks _ (WantsQuoted.endless rest at each) = not-on (quoted_at marks) go_on syntax.OpenQuote (quoted-endless marks rest at each)
  quoted-refuses later marks _ (WantsQuoted.later quoted rest text one at q fails) =
      let has : HasQuoted marks q.inside rest = record { blanks = at.blanks; whole = at.whole ∙ ap (λ l. at.blanks ++ l) (ap (λ l. l ++ rest) q.whole ∙ quoted-rest q.inside rest); blank = at.blank; each = q.each } in
      on-with (quoted_at marks) go_on (q.inside, rest) (quoted-finds marks q.inside rest has) ∙ later (q.inside, rest) one fails

-- ---- lists

module _ {B : Type 0} (go_on : Listed → Answer B) (after : Wrong) where
  pub list-wrong : ((listed : Listed) (one : SyntaxKind) → go_on listed ≡ Err one → after listed.1 one) → (marks : List MarkedByte) (one : SyntaxKind) → next (list_at marks) go_on ≡ Err one → MayHaveList after marks one
  list-wrong later marks one h = go (went-wrong (list_at marks) go_on one h)
    where
      form : (listed : Listed) → ListForm marks listed → after listed.1 one → MayHaveList after marks one
      form _ (ListForm.without stops) fails = MayHaveList.without (behind_blanks marks) one (blanks-at marks) stops fails
      form _ (ListForm.list blanks inside rest xrefs whole blank are) fails =
          MayHaveList.later (list_open ∷ (inside ++ list_close ∷ [])) rest xrefs one (record { blanks = blanks; whole = whole ∙ simp append_assoc; blank = blank; stops = refl }) (record { inside = inside; whole = refl; slots = are }) fails

      go : WentWrong (list_at marks) go_on one → MayHaveList after marks one
      go (WentWrong.at_once e) = list-fails after marks one e
      go (WentWrong.later listed e is) = form listed (list-found marks listed e) (later listed one is)

  pub list-refuses : ((listed : Listed) (one : SyntaxKind) → after listed.1 one → go_on listed ≡ Err one) → (marks : List MarkedByte) (one : SyntaxKind) → MayHaveList after marks one → next (list_at marks) go_on ≡ Err one
  list-refuses later marks _ (MayHaveList.without rest one at stops fails) =
      on-with (list_at marks) go_on ([], marks) (list-without marks rest at stops) ∙ later ([], marks) one fails
  list-refuses later marks _ (MayHaveList.broken rest one at fails) = not-on (list_at marks) go_on one (list-broken marks rest one at fails)
  list-refuses later marks _ (MayHaveList.later list rest xrefs one at is fails) =
      let whole : marks ≡ at.blanks ++ (list_open ∷ (is.inside ++ list_close ∷ rest)) = at.whole ∙ (ap (λ l. at.blanks ++ (l ++ rest)) is.whole ∙ simp append_assoc) in
      on-with (list_at marks) go_on (xrefs, rest) (ap list_at whole ∙ list-finds at.blanks is.inside rest xrefs at.blank is.slots) ∙ later (xrefs, rest) one fails

-- ---- values of words

pub id-wrong : (marks : List MarkedByte) (one : SyntaxKind) → read_id marks ≡ Err one → WantsWord (λ _. WantsEnd) marks one
unfolding read_id
id-wrong marks one h =
    word-wrong (λ (word : Two). ended word.1 (value.Id (read_as word.0))) (λ _. WantsEnd) (λ word one. ended-fails word.1 (value.Id (read_as word.0)) one) marks one h

pub id-refuses : (marks : List MarkedByte) (one : SyntaxKind) → WantsWord (λ _. WantsEnd) marks one → read_id marks ≡ Err one
unfolding read_id
id-refuses marks one h =
    word-refuses (λ (word : Two). ended word.1 (value.Id (read_as word.0))) (λ _. WantsEnd) (λ word one. ended-refuses word.1 (value.Id (read_as word.0)) one) marks one h

pub pair-wrong : (marks : List MarkedByte) (one : SyntaxKind) → read_pair marks ≡ Err one → WantsWord (λ _. WantsWord (λ _. WantsEnd)) marks one
unfolding read_pair
pair-wrong marks one h =
    word-wrong (λ (word : Two). next (want_word word.1) (λ (second : Two). ended second.1 (value.Pair (read_as word.0) (read_as second.0)))) (λ _. WantsWord (λ _. WantsEnd))
    (λ word one. word-wrong (λ (second : Two). ended second.1 (value.Pair (read_as word.0) (read_as second.0))) (λ _. WantsEnd) (λ second one. ended-fails second.1 (value.Pair (read_as word.0) (read_as second.0)) one) word.1 one) marks one h

pub pair-refuses : (marks : List MarkedByte) (one : SyntaxKind) → WantsWord (λ _. WantsWord (λ _. WantsEnd)) marks one → read_pair marks ≡ Err one
unfolding read_pair
pair-refuses marks one h =
    word-refuses (λ (word : Two). next (want_word word.1) (λ (second : Two). ended second.1 (value.Pair (read_as word.0) (read_as second.0)))) (λ _. WantsWord (λ _. WantsEnd))
    (λ word one. word-refuses (λ (second : Two). ended second.1 (value.Pair (read_as word.0) (read_as second.0))) (λ _. WantsEnd) (λ second one. ended-refuses second.1 (value.Pair (read_as word.0) (read_as second.0)) one) word.1 one) marks one h

pub id_or_pair-wrong : (marks : List MarkedByte) (one : SyntaxKind) → read_id_or_pair marks ≡ Err one → WantsWord (λ _. MayHaveWord (λ _. WantsEnd)) marks one
unfolding read_id_or_pair
id_or_pair-wrong marks one h =
    word-wrong (λ (word : Two). found {B = Answer QualifiedValue} (word_at word.1) (ended word.1 (value.Id (read_as word.0))) (λ (second : Two). ended second.1 (value.Pair (read_as word.0) (read_as second.0)))) (λ _. MayHaveWord (λ _. WantsEnd))
    (λ word. may-wrong (ended word.1 (value.Id (read_as word.0))) (λ (second : Two). ended second.1 (value.Pair (read_as word.0) (read_as second.0))) (λ _. WantsEnd) word.1 (ended-fails word.1 (value.Id (read_as word.0))) (λ second one. ended-fails second.1 (value.Pair (read_as word.0) (read_as second.0)) one)) marks one h

pub id_or_pair-refuses : (marks : List MarkedByte) (one : SyntaxKind) → WantsWord (λ _. MayHaveWord (λ _. WantsEnd)) marks one → read_id_or_pair marks ≡ Err one
unfolding read_id_or_pair
id_or_pair-refuses marks one h =
    word-refuses (λ (word : Two). found {B = Answer QualifiedValue} (word_at word.1) (ended word.1 (value.Id (read_as word.0))) (λ (second : Two). ended second.1 (value.Pair (read_as word.0) (read_as second.0)))) (λ _. MayHaveWord (λ _. WantsEnd))
    (λ word. may-refuses (ended word.1 (value.Id (read_as word.0))) (λ (second : Two). ended second.1 (value.Pair (read_as word.0) (read_as second.0))) (λ _. WantsEnd) word.1 (ended-refuses word.1 (value.Id (read_as word.0))) (λ second one. ended-refuses second.1 (value.Pair (read_as word.0) (read_as second.0)) one)) marks one h

truth-wrong : (word : Two) (one : SyntaxKind) → next (want_truth (read_as word.0)) (λ (truth : Bool). ended word.1 (value.Bool truth)) ≡ Err one → WantsTruth (read_as word.0) word.1 one
truth-wrong word one h = go (went-wrong (want_truth (read_as word.0)) (λ (truth : Bool). ended word.1 (value.Bool truth)) one h)
  where
    go : WentWrong (want_truth (read_as word.0)) (λ (truth : Bool). ended word.1 (value.Bool truth)) one → WantsTruth (read_as word.0) word.1 one
    go (WentWrong.at_once e) =
        let m = wanted-missing syntax.BadBool one (truth_of (read_as word.0)) e in
        subst (WantsTruth (read_as word.0) word.1) m.1 (WantsTruth.other (truth-missing (read_as word.0) m.0))
    go (WentWrong.later truth e is) =
        WantsTruth.later truth one (truth-is (read_as word.0) truth (wanted-found syntax.BadBool (truth_of (read_as word.0)) truth e)) (ended-fails word.1 (value.Bool truth) one is)

truth-refuses : (word : Two) (one : SyntaxKind) → WantsTruth (read_as word.0) word.1 one → next (want_truth (read_as word.0)) (λ (truth : Bool). ended word.1 (value.Bool truth)) ≡ Err one
truth-refuses word _ (WantsTruth.other never) =
    not-on (want_truth (read_as word.0)) (λ (truth : Bool). ended word.1 (value.Bool truth)) syntax.BadBool (ap (wanted syntax.BadBool) (truth-none (read_as word.0) never))
truth-refuses word _ (WantsTruth.later truth one is fails) =
    on-with (want_truth (read_as word.0)) (λ (truth : Bool). ended word.1 (value.Bool truth)) truth (ap (wanted syntax.BadBool) (truth-of (read_as word.0) truth is)) ∙ ended-refuses word.1 (value.Bool truth) one fails

pub bool-wrong : (marks : List MarkedByte) (one : SyntaxKind) → read_bool marks ≡ Err one → WantsWord WantsTruth marks one
unfolding read_bool
bool-wrong marks one h =
    word-wrong (λ (word : Two). next (want_truth (read_as word.0)) (λ (truth : Bool). ended word.1 (value.Bool truth))) WantsTruth truth-wrong marks one h

pub bool-refuses : (marks : List MarkedByte) (one : SyntaxKind) → WantsWord WantsTruth marks one → read_bool marks ≡ Err one
unfolding read_bool
bool-refuses marks one h =
    word-refuses (λ (word : Two). next (want_truth (read_as word.0)) (λ (truth : Bool). ended word.1 (value.Bool truth))) WantsTruth truth-refuses marks one h

-- ---- values of quoted texts

pub definition-wrong : (marks : List MarkedByte) (one : SyntaxKind) → read_definition marks ≡ Err one → WantsQuoted (MayHaveList WantsEnd) marks one
unfolding read_definition
definition-wrong marks one h =
    quoted-wrong (λ (text : Two). next (list_at text.1) (λ (list : Listed). ended list.1 (value.Def (read_as text.0) list.0))) (MayHaveList WantsEnd)
    (λ text. list-wrong (λ (list : Listed). ended list.1 (value.Def (read_as text.0) list.0)) WantsEnd (λ listed. ended-fails listed.1 (value.Def (read_as text.0) listed.0)) text.1) marks one h

pub definition-refuses : (marks : List MarkedByte) (one : SyntaxKind) → WantsQuoted (MayHaveList WantsEnd) marks one → read_definition marks ≡ Err one
unfolding read_definition
definition-refuses marks one h =
    quoted-refuses (λ (text : Two). next (list_at text.1) (λ (list : Listed). ended list.1 (value.Def (read_as text.0) list.0))) (MayHaveList WantsEnd)
    (λ text. list-refuses (λ (list : Listed). ended list.1 (value.Def (read_as text.0) list.0)) WantsEnd (λ listed. ended-refuses listed.1 (value.Def (read_as text.0) listed.0)) text.1) marks one h

-- what goes on behind the scope and the type of a synonym
module _ (text : List ℕ) where
  abbrev listed_on : Scoped → Answer QualifiedValue
  listed_on s = next (list_at s.2) (λ (list : Listed). ended list.1 (value.Synonym text s.0 s.1 list.0))

  listed-wrong : (s : Scoped) (one : SyntaxKind) → listed_on s ≡ Err one → MayHaveList WantsEnd s.2 one
  listed-wrong s one h = list-wrong (λ (list : Listed). ended list.1 (value.Synonym text s.0 s.1 list.0)) WantsEnd (λ listed. ended-fails listed.1 (value.Synonym text s.0 s.1 listed.0)) s.2 one h

  listed-refuses : (s : Scoped) (one : SyntaxKind) → MayHaveList WantsEnd s.2 one → listed_on s ≡ Err one
  listed-refuses s one h = list-refuses (λ (list : Listed). ended list.1 (value.Synonym text s.0 s.1 list.0)) WantsEnd (λ listed. ended-refuses listed.1 (value.Synonym text s.0 s.1 listed.0)) s.2 one h

  abbrev after_scope : Scope → Two → Answer QualifiedValue
  after_scope one type = listed_on (one, Some (read_as type.0), type.1)

  type-through : (one : Scope) (marks : List MarkedByte) → listed_on (type_behind one marks) ≡ found {B = Answer QualifiedValue} (word_at marks) (listed_on (one, None, marks)) (after_scope one)
  type-through one marks = through listed_on (word_at marks) (one, None, marks) (λ (type : Two). (one, Some (read_as type.0), type.1))

  abbrev after_word : List ℕ → List MarkedByte → Answer QualifiedValue
  after_word word marks = listed_on (found {B = Scoped} (scope_of word) (scope.Related, Some word, marks) (λ (one : Scope). type_behind one marks))

  scope-wrong : (word : List ℕ) (marks : List MarkedByte) (one : SyntaxKind) → after_word word marks ≡ Err one → MayHaveScope (MayHaveList WantsEnd) (Some word) marks one
  scope-wrong word marks one h = go (scope_of word) refl h
    where
      go : (o : Option Scope) → scope_of word ≡ o → listed_on (found {B = Scoped} o (scope.Related, Some word, marks) (λ (one : Scope). type_behind one marks)) ≡ Err one → MayHaveScope (MayHaveList WantsEnd) (Some word) marks one
      go None e h = MayHaveScope.typed word marks one (scope-missing word e) (listed-wrong (scope.Related, Some word, marks) one h)
      go (Some said) e h =
          let may = may-wrong (listed_on (said, None, marks)) (after_scope said) (λ _. MayHaveList WantsEnd) marks (listed-wrong (said, None, marks)) (λ type. listed-wrong (said, Some (read_as type.0), type.1)) one (sym (type-through said marks) ∙ h) in
          subst (λ w. MayHaveScope (MayHaveList WantsEnd) (Some w) marks one) (sym (scope-is word said e)) (MayHaveScope.scoped marks said one may)

  abbrev after_option : Option (List ℕ) → List MarkedByte → Answer QualifiedValue
  after_option None marks = listed_on (scope.Related, None, marks)
  after_option (Some word) marks = after_word word marks

  scope-refuses : (o : Option (List ℕ)) (marks : List MarkedByte) (one : SyntaxKind) → MayHaveScope (MayHaveList WantsEnd) o marks one → after_option o marks ≡ Err one
  scope-refuses _ _ _ (MayHaveScope.without marks one fails) = listed-refuses (scope.Related, None, marks) one fails
  scope-refuses _ _ _ (MayHaveScope.scoped marks said one fails) =
      ap (λ o. listed_on (found {B = Scoped} o (scope.Related, Some (scope_word said), marks) (λ (one : Scope). type_behind one marks))) (scope-of (scope_word said) said refl)
      ∙ (type-through said marks ∙ may-refuses (listed_on (said, None, marks)) (after_scope said) (λ _. MayHaveList WantsEnd) marks (listed-refuses (said, None, marks)) (λ type. listed-refuses (said, Some (read_as type.0), type.1)) one fails)
  scope-refuses _ _ _ (MayHaveScope.typed word marks one never fails) =
      ap (λ o. listed_on (found {B = Scoped} o (scope.Related, Some word, marks) (λ (one : Scope). type_behind one marks))) (scope-none word never)
      ∙ listed-refuses (scope.Related, Some word, marks) one fails

  scoped-through : (marks : List MarkedByte) → listed_on (scoped_at marks) ≡ found {B = Answer QualifiedValue} (word_at marks) (listed_on (scope.Related, None, marks)) (λ (word : Two). after_word (read_as word.0) word.1)
  unfolding scoped_at
  scoped-through marks =
      through listed_on (word_at marks) (scope.Related, None, marks) (λ (word : Two). found {B = Scoped} (scope_of (read_as word.0)) (scope.Related, Some (read_as word.0), word.1) (λ (one : Scope). type_behind one word.1))

  scoped-wrong : (marks : List MarkedByte) (one : SyntaxKind) → listed_on (scoped_at marks) ≡ Err one → MayHaveWord (MayHaveScope (MayHaveList WantsEnd)) marks one
  scoped-wrong marks one h =
      may-wrong (listed_on (scope.Related, None, marks)) (λ (word : Two). after_word (read_as word.0) word.1) (MayHaveScope (MayHaveList WantsEnd)) marks
      (λ one h. MayHaveScope.without marks one (listed-wrong (scope.Related, None, marks) one h)) (λ word. scope-wrong (read_as word.0) word.1) one (sym (scoped-through marks) ∙ h)

  scoped-refuses : (marks : List MarkedByte) (one : SyntaxKind) → MayHaveWord (MayHaveScope (MayHaveList WantsEnd)) marks one → listed_on (scoped_at marks) ≡ Err one
  scoped-refuses marks one h =
      scoped-through marks
      ∙ may-refuses (listed_on (scope.Related, None, marks)) (λ (word : Two). after_word (read_as word.0) word.1) (MayHaveScope (MayHaveList WantsEnd)) marks
      (λ one. scope-refuses None marks one) (λ word one. scope-refuses (Some (read_as word.0)) word.1 one) one h

pub synonym-wrong : (marks : List MarkedByte) (one : SyntaxKind) → read_synonym marks ≡ Err one → WantsQuoted (MayHaveWord (MayHaveScope (MayHaveList WantsEnd))) marks one
unfolding read_synonym
synonym-wrong marks one h =
    quoted-wrong (λ (text : Two). next (list_at (scoped_at text.1).2) (λ (list : Listed). ended list.1 (value.Synonym (read_as text.0) (scoped_at text.1).0 (scoped_at text.1).1 list.0))) (MayHaveWord (MayHaveScope (MayHaveList WantsEnd)))
    (λ text. scoped-wrong (read_as text.0) text.1) marks one h

pub synonym-refuses : (marks : List MarkedByte) (one : SyntaxKind) → WantsQuoted (MayHaveWord (MayHaveScope (MayHaveList WantsEnd))) marks one → read_synonym marks ≡ Err one
unfolding read_synonym
synonym-refuses marks one h =
    quoted-refuses (λ (text : Two). next (list_at (scoped_at text.1).2) (λ (list : Listed). ended list.1 (value.Synonym (read_as text.0) (scoped_at text.1).0 (scoped_at text.1).1 list.0))) (MayHaveWord (MayHaveScope (MayHaveList WantsEnd)))
    (λ text. scoped-refuses (read_as text.0) text.1) marks one h

-- ---- properties

module _ (relation : List ℕ) (text : List ℕ) where
  abbrev typed_on : Option (List MarkedByte) × List MarkedByte → Answer QualifiedValue
  typed_on more = ended more.1 (value.Literal relation text (datatype_of more.0))

  typed-through : (marks : List MarkedByte) → typed_on (may_have_word marks) ≡ found {B = Answer QualifiedValue} (word_at marks) (typed_on (None, marks)) (λ (word : Two). typed_on (Some word.0, word.1))
  typed-through marks = through typed_on (word_at marks) (None, marks) (λ (word : Two). (Some word.0, word.1))

  typed-wrong : (marks : List MarkedByte) (one : SyntaxKind) → typed_on (may_have_word marks) ≡ Err one → MayHaveWord (λ _. WantsEnd) marks one
  typed-wrong marks one h =
      may-wrong (typed_on (None, marks)) (λ (word : Two). typed_on (Some word.0, word.1)) (λ _. WantsEnd) marks (ended-fails marks (value.Literal relation text (datatype_of None))) (λ word. ended-fails word.1 (value.Literal relation text (datatype_of (Some word.0)))) one (sym (typed-through marks) ∙ h)

  typed-refuses : (marks : List MarkedByte) (one : SyntaxKind) → MayHaveWord (λ _. WantsEnd) marks one → typed_on (may_have_word marks) ≡ Err one
  typed-refuses marks one h =
      typed-through marks ∙ may-refuses (typed_on (None, marks)) (λ (word : Two). typed_on (Some word.0, word.1)) (λ _. WantsEnd) marks (ended-refuses marks (value.Literal relation text (datatype_of None))) (λ word. ended-refuses word.1 (value.Literal relation text (datatype_of (Some word.0)))) one h

literal-wrong : (relation : List ℕ) (marks : List MarkedByte) (one : SyntaxKind) → read_literal relation marks ≡ Err one → WantsQuoted (MayHaveWord (λ _. WantsEnd)) marks one
unfolding read_literal
literal-wrong relation marks one h =
    quoted-wrong (λ (text : Two). ended (may_have_word text.1).1 (value.Literal relation (read_as text.0) (datatype_of (may_have_word text.1).0))) (MayHaveWord (λ _. WantsEnd)) (λ text. typed-wrong relation (read_as text.0) text.1) marks one h

literal-refuses : (relation : List ℕ) (marks : List MarkedByte) (one : SyntaxKind) → WantsQuoted (MayHaveWord (λ _. WantsEnd)) marks one → read_literal relation marks ≡ Err one
unfolding read_literal
literal-refuses relation marks one h =
    quoted-refuses (λ (text : Two). ended (may_have_word text.1).1 (value.Literal relation (read_as text.0) (datatype_of (may_have_word text.1).0))) (MayHaveWord (λ _. WantsEnd)) (λ text. typed-refuses relation (read_as text.0) text.1) marks one h

link-wrong : (relation : List ℕ) (marks : List MarkedByte) (one : SyntaxKind) → read_link relation marks ≡ Err one → WantsWord (λ _. WantsEnd) marks one
unfolding read_link
link-wrong relation marks one h =
    word-wrong (λ (target : Two). ended target.1 (value.Link relation (read_as target.0))) (λ _. WantsEnd) (λ target. ended-fails target.1 (value.Link relation (read_as target.0))) marks one h

link-refuses : (relation : List ℕ) (marks : List MarkedByte) (one : SyntaxKind) → WantsWord (λ _. WantsEnd) marks one → read_link relation marks ≡ Err one
unfolding read_link
link-refuses relation marks one h =
    word-refuses (λ (target : Two). ended target.1 (value.Link relation (read_as target.0))) (λ _. WantsEnd) (λ target. ended-refuses target.1 (value.Link relation (read_as target.0))) marks one h

abbrev object_on : Two → Answer QualifiedValue
object_on word = found {B = Answer QualifiedValue} (behind_sign 34 (behind_blanks word.1)) (read_link (read_as word.0) word.1) (λ (_ : List MarkedByte). read_literal (read_as word.0) word.1)

object-wrong : (word : Two) (one : SyntaxKind) → object_on word ≡ Err one → WantsObject word.1 one
object-wrong word one h = go (behind_sign 34 (behind_blanks word.1)) refl h
  where
    go : (o : Option (List MarkedByte)) → behind_sign 34 (behind_blanks word.1) ≡ o → found {B = Answer QualifiedValue} o (read_link (read_as word.0) word.1) (λ (_ : List MarkedByte). read_literal (read_as word.0) word.1) ≡ Err one → WantsObject word.1 one
    go None e h = WantsObject.word (behind_blanks word.1) one (blanks-at word.1) (quote_stops (behind_blanks word.1) e) (link-wrong (read_as word.0) word.1 one h)
    go (Some inside) e h = WantsObject.text inside one (subst (IsBehindBlanks word.1) (behind_sign-found 34 (behind_blanks word.1) inside e) (blanks-at word.1)) (literal-wrong (read_as word.0) word.1 one h)

object-refuses : (word : Two) (one : SyntaxKind) → WantsObject word.1 one → object_on word ≡ Err one
object-refuses word _ (WantsObject.text rest one at fails) =
    ap (λ l. found {B = Answer QualifiedValue} (behind_sign 34 l) (read_link (read_as word.0) word.1) (λ (_ : List MarkedByte). read_literal (read_as word.0) word.1)) (blanks-of word.1 (quote ∷ rest) at) ∙ literal-refuses (read_as word.0) word.1 one fails
object-refuses word _ (WantsObject.word rest one at stops fails) =
    ap (λ l. found {B = Answer QualifiedValue} (behind_sign 34 l) (read_link (read_as word.0) word.1) (λ (_ : List MarkedByte). read_literal (read_as word.0) word.1)) (blanks-of word.1 rest at)
    ∙ (ap (λ o. found {B = Answer QualifiedValue} o (read_link (read_as word.0) word.1) (λ (_ : List MarkedByte). read_literal (read_as word.0) word.1)) (no_quote rest stops) ∙ link-refuses (read_as word.0) word.1 one fails)

pub property-wrong : (marks : List MarkedByte) (one : SyntaxKind) → read_property marks ≡ Err one → WantsWord (λ _. WantsObject) marks one
unfolding read_property
property-wrong marks one h = word-wrong object_on (λ _. WantsObject) object-wrong marks one h

pub property-refuses : (marks : List MarkedByte) (one : SyntaxKind) → WantsWord (λ _. WantsObject) marks one → read_property marks ≡ Err one
unfolding read_property
property-refuses marks one h = word-refuses object_on (λ _. WantsObject) object-refuses marks one h

-- ---- subsets and types of synonyms

pub subset-wrong : (marks : List MarkedByte) (one : SyntaxKind) → read_subset marks ≡ Err one → WantsWord (λ _. WantsQuoted WantsEnd) marks one
unfolding read_subset
subset-wrong marks one h =
    word-wrong (λ (word : Two). next (quoted_at word.1) (λ (text : Two). ended text.1 (value.SubsetDef (read_as word.0) (read_as text.0)))) (λ _. WantsQuoted WantsEnd)
    (λ word. quoted-wrong (λ (text : Two). ended text.1 (value.SubsetDef (read_as word.0) (read_as text.0))) WantsEnd (λ text. ended-fails text.1 (value.SubsetDef (read_as word.0) (read_as text.0))) word.1) marks one h

pub subset-refuses : (marks : List MarkedByte) (one : SyntaxKind) → WantsWord (λ _. WantsQuoted WantsEnd) marks one → read_subset marks ≡ Err one
unfolding read_subset
subset-refuses marks one h =
    word-refuses (λ (word : Two). next (quoted_at word.1) (λ (text : Two). ended text.1 (value.SubsetDef (read_as word.0) (read_as text.0)))) (λ _. WantsQuoted WantsEnd)
    (λ word. quoted-refuses (λ (text : Two). ended text.1 (value.SubsetDef (read_as word.0) (read_as text.0))) WantsEnd (λ text. ended-refuses text.1 (value.SubsetDef (read_as word.0) (read_as text.0))) word.1) marks one h

module _ (id text : List ℕ) where
  abbrev said_on : Answer TypeScope → Answer QualifiedValue
  said_on answer = next answer (λ (said : TypeScope). ended said.1 (value.SynonymDef id text said.0))

  abbrev scope_on : Two → Answer QualifiedValue
  scope_on word = said_on (next {A = Scope} {B = TypeScope} (wanted syntax.Trailing (scope_of (read_as word.0))) (λ (one : Scope). Ok (Some one, word.1)))

  said-through : (marks : List MarkedByte) → said_on (type_scope_at marks) ≡ found {B = Answer QualifiedValue} (word_at marks) (ended marks (value.SynonymDef id text None)) scope_on
  unfolding type_scope_at
  said-through marks = through said_on (word_at marks) (Ok (None, marks)) (λ (word : Two). next {A = Scope} {B = TypeScope} (wanted syntax.Trailing (scope_of (read_as word.0))) (λ (one : Scope). Ok (Some one, word.1)))

  type-wrong : (word : Two) (one : SyntaxKind) → scope_on word ≡ Err one → MayBeScope (Some (read_as word.0)) word.1 one
  type-wrong word one h = go (scope_of (read_as word.0)) refl h
    where
      go : (o : Option Scope) → scope_of (read_as word.0) ≡ o → said_on (next {A = Scope} {B = TypeScope} (wanted syntax.Trailing o) (λ (one : Scope). Ok (Some one, word.1))) ≡ Err one → MayBeScope (Some (read_as word.0)) word.1 one
      go None e h = let same : syntax.Trailing ≡ one = cc in subst (MayBeScope (Some (read_as word.0)) word.1) same (MayBeScope.other (read_as word.0) word.1 (scope-missing (read_as word.0) e))
      go (Some said) e h =
          subst (λ w. MayBeScope (Some w) word.1 one) (sym (scope-is (read_as word.0) said e)) (MayBeScope.scoped word.1 said one (ended-fails word.1 (value.SynonymDef id text (Some said)) one h))

  abbrev scope_after : Option (List ℕ) → List MarkedByte → Answer QualifiedValue
  scope_after None marks = ended marks (value.SynonymDef id text None)
  scope_after (Some word) marks = said_on (next {A = Scope} {B = TypeScope} (wanted syntax.Trailing (scope_of word)) (λ (one : Scope). Ok (Some one, marks)))

  type-refuses : (o : Option (List ℕ)) (marks : List MarkedByte) (one : SyntaxKind) → MayBeScope o marks one → scope_after o marks ≡ Err one
  type-refuses _ _ _ (MayBeScope.without marks one fails) = ended-refuses marks (value.SynonymDef id text None) one fails
  type-refuses _ _ _ (MayBeScope.scoped marks said one fails) =
      ap (λ o. said_on (next {A = Scope} {B = TypeScope} (wanted syntax.Trailing o) (λ (one : Scope). Ok (Some one, marks)))) (scope-of (scope_word said) said refl) ∙ ended-refuses marks (value.SynonymDef id text (Some said)) one fails
  type-refuses _ _ _ (MayBeScope.other word marks never) =
      ap (λ o. said_on (next {A = Scope} {B = TypeScope} (wanted syntax.Trailing o) (λ (one : Scope). Ok (Some one, marks)))) (scope-none word never)

  said-wrong : (marks : List MarkedByte) (one : SyntaxKind) → said_on (type_scope_at marks) ≡ Err one → MayHaveWord MayBeScope marks one
  said-wrong marks one h =
      may-wrong (ended marks (value.SynonymDef id text None)) scope_on MayBeScope marks (λ one h. MayBeScope.without marks one (ended-fails marks (value.SynonymDef id text None) one h)) type-wrong one (sym (said-through marks) ∙ h)

  said-refuses : (marks : List MarkedByte) (one : SyntaxKind) → MayHaveWord MayBeScope marks one → said_on (type_scope_at marks) ≡ Err one
  said-refuses marks one h =
      said-through marks ∙ may-refuses (ended marks (value.SynonymDef id text None)) scope_on MayBeScope marks (λ one. type-refuses None marks one) (λ word one. type-refuses (Some (read_as word.0)) word.1 one) one h

pub synonym_type-wrong : (marks : List MarkedByte) (one : SyntaxKind) → read_synonym_type marks ≡ Err one → WantsWord (λ _. WantsQuoted (MayHaveWord MayBeScope)) marks one
unfolding read_synonym_type
synonym_type-wrong marks one h =
    word-wrong (λ (word : Two). next (quoted_at word.1) (λ (text : Two). next (type_scope_at text.1) (λ (said : TypeScope). ended said.1 (value.SynonymDef (read_as word.0) (read_as text.0) said.0)))) (λ _. WantsQuoted (MayHaveWord MayBeScope))
    (λ word. quoted-wrong (λ (text : Two). next (type_scope_at text.1) (λ (said : TypeScope). ended said.1 (value.SynonymDef (read_as word.0) (read_as text.0) said.0))) (MayHaveWord MayBeScope) (λ text. said-wrong (read_as word.0) (read_as text.0) text.1) word.1) marks one h

pub synonym_type-refuses : (marks : List MarkedByte) (one : SyntaxKind) → WantsWord (λ _. WantsQuoted (MayHaveWord MayBeScope)) marks one → read_synonym_type marks ≡ Err one
unfolding read_synonym_type
synonym_type-refuses marks one h =
    word-refuses (λ (word : Two). next (quoted_at word.1) (λ (text : Two). next (type_scope_at text.1) (λ (said : TypeScope). ended said.1 (value.SynonymDef (read_as word.0) (read_as text.0) said.0)))) (λ _. WantsQuoted (MayHaveWord MayBeScope))
    (λ word. quoted-refuses (λ (text : Two). next (type_scope_at text.1) (λ (said : TypeScope). ended said.1 (value.SynonymDef (read_as word.0) (read_as text.0) said.0))) (MayHaveWord MayBeScope) (λ text. said-refuses (read_as word.0) (read_as text.0) text.1) word.1) marks one h
