-- What stands behind a value: blanks and an ending; and the words that mean a truth value or a scope.
use Rattle.std.proofs.Common.{◌≡◌, ℕ, ◌<◌, Bool, true, false, cond, List, [], ◌∷◌, ◌++◌, codes, Option, Some, None, Ok, Err, length, refl, sym, ap, subst, ◌∙◌, arith}
use Rattle.std.specs.List.{AllPass}
use Rattle.std.specs.Str.{bytes_eq}
use Rattle.std.proofs.lemmas.Bool.{false≢true}
use Rattle.std.proofs.lemmas.Slice.Eq.{bytes_eq-Decides}
use Rattle.obo_clause.specs.declared.clause.Qualifier.{Qualifier}
use Rattle.obo_clause.specs.declared.clause.Scope.{Scope}
use Rattle.obo_clause.specs.declared.clause.Scope.TheVariants as scope
use Rattle.obo_clause.specs.declared.clause.Value.{Value}
use Rattle.obo_clause.specs.declared.line.SyntaxKind.{SyntaxKind}
use Rattle.obo_clause.specs.declared.line.SyntaxKind.TheVariants as syntax
use Rattle.obo_clause.specs.declared.clause.QualifiedValue.{QualifiedValue}
use Rattle.obo_clause.specs.Faults.{IsBehindBlanks, Stops, WantsEnd}
use Rattle.obo_clause.specs.Grammar.{AreBlanks, IsEnding}
use Rattle.obo_clause.specs.Marks.{MarkedByte}
use Rattle.obo_clause.specs.Reading.{Answer, behind_blanks, end_at, ending_at, next, wanted, word_at}
use Rattle.obo_clause.specs.ReadingLines.{qualified_value, ended, scope_of, truth_of, want_word}
use Rattle.obo_clause.specs.Spelling.{IsNoScope, bool_word, scope_word}
use Rattle.obo_clause.specs.Vocabulary.{block_open, exclamation, is_space, is_word_mark}
use Rattle.obo_clause.proofs.EndingLemmas.{ending-begins, ending-finds, ending-found}
use Rattle.obo_clause.proofs.RunLemmas.{pass-head}
use Rattle.obo_clause.proofs.RunningText.{no-ending}
use Rattle.obo_clause.proofs.SignLemmas.{space-not_word}
use Rattle.obo_clause.proofs.WordLemmas.{HasRun, Two, blanks-at, blanks-behind, blanks-of, same-ok, wanted-found, word-finds, word-found, word-none}

-- ---- one step of reading

-- a step that went well, and what went on with it
pub record WentOn {A B : Type 0} (answer : Answer A) (go_on : A → Answer B) (last : B) : Type 0 where
  pub got : A
  pub found : answer ≡ Ok got
  pub on : go_on got ≡ Ok last

pub went-on : {A B : Type 0} (answer : Answer A) (go_on : A → Answer B) (last : B) → next answer go_on ≡ Ok last → WentOn answer go_on last
went-on (Ok got) go_on last h = record { got = got; found = refl; on = h }
went-on (Err one) go_on last h = cc

-- a step that went wrong, at once or later
pub data WentWrong {A B : Type 0} (answer : Answer A) (go_on : A → Answer B) (one : SyntaxKind) : Type 0 where
  at_once : answer ≡ Err one → WentWrong answer go_on one
  later : (got : A) → answer ≡ Ok got → go_on got ≡ Err one → WentWrong answer go_on one

pub went-wrong : {A B : Type 0} (answer : Answer A) (go_on : A → Answer B) (one : SyntaxKind) → next answer go_on ≡ Err one → WentWrong answer go_on one
went-wrong {A} {B} (Ok got) go_on one h = WentWrong.later got refl h
went-wrong (Err two) go_on one h = let same : two ≡ one = cc in WentWrong.at_once (ap Err same)

pub on-with : {A B : Type 0} (answer : Answer A) (go_on : A → Answer B) (got : A) → answer ≡ Ok got → next answer go_on ≡ go_on got
on-with answer go_on got e = ap (λ a. next a go_on) e

pub not-on : {A B : Type 0} (answer : Answer A) (go_on : A → Answer B) (one : SyntaxKind) → answer ≡ Err one → next answer go_on ≡ Err one
not-on answer go_on one e = ap (λ a. next a go_on) e

-- ---- endings behind a value

-- blanks and an ending, behind this value
pub record Tail (rest : List MarkedByte) (value : Value) (one : QualifiedValue) : Type 0 where
  pub between : List MarkedByte
  pub ending : List MarkedByte
  pub whole : rest ≡ between ++ ending
  pub blank : AreBlanks between
  pub is : IsEnding ending one.qualifiers
  pub same : value ≡ one.value

tail-step : (rest : List MarkedByte) (value : Value) (one : QualifiedValue) (o : Option (List Qualifier)) → ending_at (behind_blanks rest) ≡ o → next {B = QualifiedValue} (wanted syntax.Trailing o) (λ (qualifiers : List Qualifier). Ok (qualified_value value qualifiers)) ≡ Ok one → Tail rest value one
tail-step rest value one None e h = cc
tail-step rest value one (Some qualifiers) e h =
    let same = same-ok (qualified_value value qualifiers) one h in
    let at = blanks-at rest in
    record {
      between = at.blanks;
      ending = behind_blanks rest;
      whole = at.whole;
      blank = at.blank;
      is = subst (λ (c : QualifiedValue). IsEnding (behind_blanks rest) c.qualifiers) same (ending-found (behind_blanks rest) qualifiers e);
      same = ap (λ (c : QualifiedValue). c.value) same;
    }

pub ended-ok : (rest : List MarkedByte) (value : Value) (one : QualifiedValue) → ended rest value ≡ Ok one → Tail rest value one
unfolding end_at
ended-ok rest value one h = tail-step rest value one (ending_at (behind_blanks rest)) refl h

pub end-finds : (between ending : List MarkedByte) (qualifiers : List Qualifier) → AreBlanks between → IsEnding ending qualifiers → ending_at (behind_blanks (between ++ ending)) ≡ Some qualifiers
end-finds between ending qualifiers blank is =
    ap ending_at (blanks-behind between ending blank (ending-begins is_space ending qualifiers is refl refl)) ∙ ending-finds ending qualifiers is

pub ended-finds : (between ending : List MarkedByte) (qualifiers : List Qualifier) (value : Value) → AreBlanks between → IsEnding ending qualifiers → ended (between ++ ending) value ≡ Ok (qualified_value value qualifiers)
unfolding end_at
ended-finds between ending qualifiers value blank is =
    ap (λ o. next {B = QualifiedValue} (wanted syntax.Trailing o) (λ (qualifiers : List Qualifier). Ok (qualified_value value qualifiers))) (end-finds between ending qualifiers blank is)

end-wrong : (rest : List MarkedByte) (value : Value) (one : SyntaxKind) (o : Option (List Qualifier)) → ending_at (behind_blanks rest) ≡ o → next {B = QualifiedValue} (wanted syntax.Trailing o) (λ (qualifiers : List Qualifier). Ok (qualified_value value qualifiers)) ≡ Err one → WantsEnd rest one
end-wrong rest value one (Some qualifiers) e h = cc
end-wrong rest value one None e h =
    let same : syntax.Trailing ≡ one = cc in
    subst (WantsEnd rest) same (WantsEnd.trailing (behind_blanks rest) (blanks-at rest) (λ qualifiers. no-ending (behind_blanks rest) qualifiers e))

pub ended-fails : (rest : List MarkedByte) (value : Value) (one : SyntaxKind) → ended rest value ≡ Err one → WantsEnd rest one
unfolding end_at
ended-fails rest value one h = end-wrong rest value one (ending_at (behind_blanks rest)) refl h

none-there : (marks : List MarkedByte) (o : Option (List Qualifier)) → ending_at marks ≡ o → ((qualifiers : List Qualifier) → ¬ IsEnding marks qualifiers) → o ≡ None
none-there marks None e never = refl
none-there marks (Some qualifiers) e never = absurd (never qualifiers (ending-found marks qualifiers e))

pub ended-refuses : (rest : List MarkedByte) (value : Value) (one : SyntaxKind) → WantsEnd rest one → ended rest value ≡ Err one
unfolding end_at
ended-refuses rest value _ (WantsEnd.trailing left at never) =
    ap (λ l. next {B = QualifiedValue} (wanted syntax.Trailing (ending_at l)) (λ (qualifiers : List Qualifier). Ok (qualified_value value qualifiers))) (blanks-of rest left at)
    ∙ ap (λ o. next {B = QualifiedValue} (wanted syntax.Trailing o) (λ (qualifiers : List Qualifier). Ok (qualified_value value qualifiers))) (none-there left (ending_at left) refl never)

-- what an ending stops, it stops behind blanks
pub tail-stops : (test : MarkedByte → Bool) → ((mark : MarkedByte) → is_space mark ≡ true → test mark ≡ false) → (between ending : List MarkedByte) (qualifiers : List Qualifier) → AreBlanks between → IsEnding ending qualifiers → test exclamation ≡ false → test block_open ≡ false → Stops test (between ++ ending)
tail-stops test spaces [] ending qualifiers blank is one two = ending-begins test ending qualifiers is one two
tail-stops test spaces (x ∷ between) ending qualifiers blank is one two = spaces x (pass-head is_space x between blank)

pub tail-stops_word : (between ending : List MarkedByte) (qualifiers : List Qualifier) → AreBlanks between → IsEnding ending qualifiers → Stops is_word_mark (between ++ ending)
tail-stops_word between ending qualifiers blank is = tail-stops is_word_mark space-not_word between ending qualifiers blank is refl refl

pub tail-at : (between ending : List MarkedByte) (qualifiers : List Qualifier) → AreBlanks between → IsEnding ending qualifiers → IsBehindBlanks (between ++ ending) ending
tail-at between ending qualifiers blank is = record { blanks = between; whole = refl; blank = blank; stops = ending-begins is_space ending qualifiers is refl refl }

pub tail-no_word : (between ending : List MarkedByte) (qualifiers : List Qualifier) → AreBlanks between → IsEnding ending qualifiers → word_at (between ++ ending) ≡ None
tail-no_word between ending qualifiers blank is =
    word-none (between ++ ending) (record { rest = ending; behind = tail-at between ending qualifiers blank is; stops = ending-begins is_word_mark ending qualifiers is refl refl })

-- ---- words that mean something

same-bytes : (xs ys : List ℕ) → bytes_eq xs ys ≡ true → xs ≡ ys
same-bytes xs ys h = (bytes_eq-Decides xs ys).0 h

pub truth-of : (word : List ℕ) (truth : Bool) → word ≡ bool_word truth → truth_of word ≡ Some truth
truth-of word true e = ap truth_of e
truth-of word false e = ap truth_of e

truth-step : (word : List ℕ) (truth a b : Bool) → bytes_eq word (codes "true") ≡ a → bytes_eq word (codes "false") ≡ b → cond a (Some true) (cond b (Some false) None) ≡ Some truth → word ≡ bool_word truth
truth-step word truth true b e f h = let same : true ≡ truth = cc in same-bytes word (codes "true") e ∙ ap bool_word same
truth-step word truth false true e f h = let same : false ≡ truth = cc in same-bytes word (codes "false") f ∙ ap bool_word same
truth-step word truth false false e f h = cc

pub truth-is : (word : List ℕ) (truth : Bool) → truth_of word ≡ Some truth → word ≡ bool_word truth
truth-is word truth h = truth-step word truth (bytes_eq word (codes "true")) (bytes_eq word (codes "false")) refl refl h

pub truth-missing : (word : List ℕ) → truth_of word ≡ None → (truth : Bool) → ¬ (word ≡ bool_word truth)
truth-missing word h truth e = let both : Some truth ≡ None = sym (truth-of word truth e) ∙ h in cc

pub truth-none : (word : List ℕ) → ((truth : Bool) → ¬ (word ≡ bool_word truth)) → truth_of word ≡ None
truth-none word never = go (truth_of word) refl
  where
    go : (o : Option Bool) → truth_of word ≡ o → truth_of word ≡ None
    go None e = e
    go (Some truth) e = absurd (never truth (truth-is word truth e))

pub scope-of : (word : List ℕ) (one : Scope) → word ≡ scope_word one → scope_of word ≡ Some one
scope-of word scope.Exact e = ap scope_of e
scope-of word scope.Broad e = ap scope_of e
scope-of word scope.Narrow e = ap scope_of e
scope-of word scope.Related e = ap scope_of e

scope-step : (word : List ℕ) (one : Scope) (a b c d : Bool) → bytes_eq word (codes "EXACT") ≡ a → bytes_eq word (codes "BROAD") ≡ b → bytes_eq word (codes "NARROW") ≡ c → bytes_eq word (codes "RELATED") ≡ d
    → cond a (Some scope.Exact) (cond b (Some scope.Broad) (cond c (Some scope.Narrow) (cond d (Some scope.Related) None))) ≡ Some one → word ≡ scope_word one
scope-step word one true b c d e f g i h = let same : scope.Exact ≡ one = cc in same-bytes word (codes "EXACT") e ∙ ap scope_word same
scope-step word one false true c d e f g i h = let same : scope.Broad ≡ one = cc in same-bytes word (codes "BROAD") f ∙ ap scope_word same
scope-step word one false false true d e f g i h = let same : scope.Narrow ≡ one = cc in same-bytes word (codes "NARROW") g ∙ ap scope_word same
scope-step word one false false false true e f g i h = let same : scope.Related ≡ one = cc in same-bytes word (codes "RELATED") i ∙ ap scope_word same
scope-step word one false false false false e f g i h = cc

pub scope-is : (word : List ℕ) (one : Scope) → scope_of word ≡ Some one → word ≡ scope_word one
scope-is word one h =
    scope-step word one (bytes_eq word (codes "EXACT")) (bytes_eq word (codes "BROAD")) (bytes_eq word (codes "NARROW")) (bytes_eq word (codes "RELATED")) refl refl refl refl h

pub scope-missing : (word : List ℕ) → scope_of word ≡ None → IsNoScope word
scope-missing word h one e = let both : Some one ≡ None = sym (scope-of word one e) ∙ h in cc

pub scope-none : (word : List ℕ) → IsNoScope word → scope_of word ≡ None
scope-none word never = go (scope_of word) refl
  where
    go : (o : Option Scope) → scope_of word ≡ o → scope_of word ≡ None
    go None e = e
    go (Some one) e = absurd (never one (scope-is word one e))

-- ---- wanted words

pub want-found : (marks : List MarkedByte) (word : Two) → want_word marks ≡ Ok word → HasRun marks word.0 word.1
want-found marks word h = word-found marks word.0 word.1 (wanted-found syntax.NoValue (word_at marks) word h)

pub want-finds : (marks run rest : List MarkedByte) → HasRun marks run rest → want_word marks ≡ Ok (run, rest)
want-finds marks run rest has = ap (wanted syntax.NoValue) (word-finds marks run rest has)

-- a second word has blanks before it
pub spaced : (marks run rest second more : List MarkedByte) → HasRun marks run rest → (has : HasRun rest second more) → 0 < length has.blanks
spaced marks run rest second more first has = go has.blanks second (subst (Stops is_word_mark) has.whole first.stops) has.some has.each
  where
    go : (blanks second : List MarkedByte) → Stops is_word_mark (blanks ++ (second ++ more)) → 0 < length second → AllPass is_word_mark second → 0 < length blanks
    go (x ∷ blanks) second stops some each = omega arith
    go [] [] stops some each = absurd (omega arith)
    go [] (x ∷ second) stops some each = absurd (false≢true (sym stops ∙ pass-head is_word_mark x second each))
