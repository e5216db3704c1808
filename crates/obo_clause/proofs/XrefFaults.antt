-- What is wrong with a run of characters behind a colon: nothing with a text; and the faults of an xref.
use Rattle.std.proofs.Common.{◌≡◌, ℕ, zero, suc, ◌<◌, ◌==◌, Bool, true, false, ◌||◌, cond, List, [], ◌∷◌, ◌++◌, Option, Some, None, is_some, Ok, Err, length, refl, sym, ap, subst, ◌∙◌, arith}
use Rattle.std.specs.List.{AllPass}
use Rattle.std.proofs.lemmas.Bool.{eqb-true, ne_eqb, or_left, or_right}
use Rattle.std.proofs.lemmas.List.{append_assoc, nil_from_length}
use Rattle.obo_clause.specs.declared.clause.Qualifier.{Qualifier}
use Rattle.obo_clause.specs.declared.clause.Value.TheVariants as value
use Rattle.obo_clause.specs.declared.line.SyntaxKind.{SyntaxKind}
use Rattle.obo_clause.specs.declared.line.SyntaxKind.TheVariants as syntax
use Rattle.obo_clause.specs.declared.clause.QualifiedValue.{QualifiedValue}
use Rattle.obo_clause.specs.Faults.{IsBehindBlanks, WantsXref}
use Rattle.obo_clause.specs.Grammar.{AreBlanks, IsFree}
use Rattle.obo_clause.specs.Marks.{MarkedByte, read_as}
use Rattle.obo_clause.specs.Reading.{Answer, behind_blanks, behind_sign, ending_at, found, free_run, inside_quotes, next, quoted_at, stops_run, trim_end, wanted}
use Rattle.obo_clause.specs.ReadingLines.{qualified_value, ended, labelled, read_text, read_xref, xref}
use Rattle.obo_clause.specs.Vocabulary.{is_quoted_mark, is_space, quote}
use Rattle.obo_clause.proofs.EndingLemmas.{ending-finds, ending-found}
use Rattle.obo_clause.proofs.FreeLemmas.{free_run-stops}
use Rattle.obo_clause.proofs.RunLemmas.{pass-head, pass-nil}
use Rattle.obo_clause.proofs.RunningText.{free-finds, text-read}
use Rattle.obo_clause.proofs.SignLemmas.{behind_sign-found}
use Rattle.obo_clause.proofs.TailLemmas.{WentWrong, ended-fails, ended-refuses, not-on, on-with, went-wrong}
use Rattle.obo_clause.proofs.WordLemmas.{Two, blanks-at, blanks-of, inside-missing, quoted-endless, quoted-finds, quoted-found, quoted-is, quoted-rest, quoted_marks, wanted-missing}

none-some : (o : Option (List Qualifier)) → is_some o ≡ true → o ≡ None → ⊥
none-some (Some one) some e = cc
none-some None some e = cc

or-nothing : (a : Bool) → (a || false) ≡ a
or-nothing true = refl
or-nothing false = refl

-- ---- texts

pub text-never : (marks : List MarkedByte) (one : SyntaxKind) → read_text marks ≡ Err one → ⊥
unfolding read_text
text-never marks one h =
    let r = free_run false (behind_blanks marks) in
    let t = text-read false marks in
    let some : is_some (ending_at r.1) ≡ true = sym (or-nothing (is_some (ending_at r.1))) ∙ t.stops in
    go r (ending_at r.1) refl some h
  where
    go : (r : Two) (o : Option (List Qualifier)) → ending_at r.1 ≡ o → is_some (ending_at r.1) ≡ true → next {B = QualifiedValue} (wanted syntax.Trailing o) (λ (qualifiers : List Qualifier). Ok (qualified_value (value.Text (read_as (trim_end is_space r.0))) qualifiers)) ≡ Err one → ⊥
    go r (Some qualifiers) e some h = cc
    go r None e some h = none-some (ending_at r.1) some e

-- ---- xrefs

-- where a run stops that a quote ends too: at an ending or a quote
stop-step : (rest : List MarkedByte) (o : Option (List MarkedByte)) → behind_sign 34 rest ≡ o → stops_run true rest ≡ true → ending_at rest ≡ None → (inside : List MarkedByte) × (rest ≡ quote ∷ inside)
stop-step rest (Some inside) e stops none = (inside, behind_sign-found 34 rest inside e)
stop-step rest None e stops none =
    let no : (is_some (ending_at rest) || is_some (behind_sign 34 rest)) ≡ false = (λ i. is_some (none i) || is_some (behind_sign 34 rest)) ∙ ap is_some e in
    absurd (let both : true ≡ false = sym stops ∙ no in cc)

-- nothing is read before the stop
empty-wrong : (marks rest : List MarkedByte) (o : Option (List Qualifier)) → ending_at rest ≡ o → behind_blanks marks ≡ rest → stops_run true rest ≡ true → WantsXref marks syntax.NoValue
empty-wrong marks rest (Some qualifiers) e at stops =
    WantsXref.missing rest qualifiers (subst (IsBehindBlanks marks) at (blanks-at marks)) (ending-found rest qualifiers e)
empty-wrong marks rest None e at stops =
    let q = stop-step rest (behind_sign 34 rest) refl stops e in
    WantsXref.lone_label q.0 (subst (IsBehindBlanks marks) (at ∙ q.1) (blanks-at marks))

quote-fails : (inside : List MarkedByte) (one : SyntaxKind) → quoted_at (quote ∷ inside) ≡ Err one → (one ≡ syntax.OpenQuote) × AllPass is_quoted_mark inside
unfolding quoted_at
quote-fails inside one h =
    let m = wanted-missing syntax.OpenQuote one (inside_quotes inside) h in (sym m.1, inside-missing inside m.0)

label-wrong : (marks rest : List MarkedByte) (id : List ℕ) (one : SyntaxKind) → let r = free_run true (behind_blanks marks) in r.1 ≡ rest → 0 < length r.0 → ending_at rest ≡ None → labelled id rest ≡ Err one → WantsXref marks one
label-wrong marks rest id one same some none h =
    let r = free_run true (behind_blanks marks) in
    let t = text-read true marks in
    let stops = subst (λ l. stops_run true l ≡ true) same t.stops in
    let q = stop-step rest (behind_sign 34 rest) refl stops none in
    let at : IsBehindBlanks marks (r.0 ++ rest) = subst (IsBehindBlanks marks) (t.at ∙ ap (λ l. r.0 ++ l) same) (blanks-at marks) in
    let free = subst (IsFree r.0) same t.free_run in
    let each = t.quoted refl in
    go r.0 at free each some q.0 q.1 (went-wrong (quoted_at rest) (λ (label : Two). ended label.1 (xref id (Some (read_as label.0)))) one h)
  where
    go : (run : List MarkedByte) → IsBehindBlanks marks (run ++ rest) → IsFree run rest → AllPass is_quoted_mark run → 0 < length run → (inside : List MarkedByte) → rest ≡ quote ∷ inside → WentWrong (quoted_at rest) (λ (label : Two). ended label.1 (xref id (Some (read_as label.0)))) one → WantsXref marks one
    go run at free each some inside is (WentWrong.at_once e) =
        let m = quote-fails inside one (ap quoted_at (sym is) ∙ e) in
        subst (WantsXref marks) (sym m.0) (WantsXref.endless run inside (subst (λ l. IsBehindBlanks marks (run ++ l)) is at) some each (subst (IsFree run) is free) m.1)
    go run at free each some inside is (WentWrong.later label e fails) =
        let has = quoted-found rest label.0 label.1 e in
        let all : rest ≡ quoted_marks label.0 ++ label.1 = no-blanks has.blanks has.blank (sym has.whole ∙ is) has.whole ∙ sym (quoted-rest label.0 label.1) in
        let joined : run ++ rest ≡ run ++ quoted_marks label.0 ++ label.1 = ap (λ l. run ++ l) all ∙ simp append_assoc in
        WantsXref.later run (quoted_marks label.0) label.1 (read_as label.0) one (subst (IsBehindBlanks marks) joined at) some each (subst (IsFree run) all free) (quoted-is label.0 has.each) (ended-fails label.1 (xref id (Some (read_as label.0))) one fails)
      where
        no-blanks : (blanks : List MarkedByte) → AreBlanks blanks → {tail : List MarkedByte} → blanks ++ tail ≡ quote ∷ inside → rest ≡ blanks ++ tail → rest ≡ tail
        no-blanks [] blank e whole = whole
        no-blanks (x ∷ blanks) blank e whole =
            let same : x ≡ quote = cc in
            absurd (let both : true ≡ false = sym (pass-head is_space x blanks blank) ∙ ap is_space same in cc)

run-wrong : (marks : List MarkedByte) (one : SyntaxKind) (b : Bool) (o : Option (List Qualifier)) → let r = free_run true (behind_blanks marks) in (length r.0 == 0) ≡ b → ending_at r.1 ≡ o
    → cond {A = Answer QualifiedValue} b (Err syntax.NoValue) (found {B = Answer QualifiedValue} o (labelled (read_as (trim_end is_space r.0)) r.1) (λ (qualifiers : List Qualifier). Ok (qualified_value (xref (read_as (trim_end is_space r.0)) None) qualifiers))) ≡ Err one → WantsXref marks one
run-wrong marks one true o e f h =
    let r = free_run true (behind_blanks marks) in
    let t = text-read true marks in
    let nil = nil_from_length r.0 (eqb-true (length r.0) 0 e) in
    let at : behind_blanks marks ≡ r.1 = t.at ∙ ap (λ l. l ++ r.1) nil in
    let same : syntax.NoValue ≡ one = cc in
    subst (WantsXref marks) same (empty-wrong marks r.1 (ending_at r.1) refl at t.stops)
run-wrong marks one false (Some qualifiers) e f h = cc
run-wrong marks one false None e f h =
    let r = free_run true (behind_blanks marks) in
    label-wrong marks r.1 (read_as (trim_end is_space r.0)) one refl (longer (length r.0) e) f h
  where
    longer : (n : ℕ) → (n == 0) ≡ false → 0 < n
    longer zero e = cc
    longer (suc n) e = omega arith

pub xref-wrong : (marks : List MarkedByte) (one : SyntaxKind) → read_xref marks ≡ Err one → WantsXref marks one
unfolding read_xref
xref-wrong marks one h =
    let r = free_run true (behind_blanks marks) in
    run-wrong marks one (length r.0 == 0) (ending_at r.1) refl refl h

-- ---- and back

abbrev read_run : Two → Answer QualifiedValue
read_run r = cond {A = Answer QualifiedValue} (length r.0 == 0) (Err syntax.NoValue) (found {B = Answer QualifiedValue} (ending_at r.1) (labelled (read_as (trim_end is_space r.0)) r.1) (λ (qualifiers : List Qualifier). Ok (qualified_value (xref (read_as (trim_end is_space r.0)) None) qualifiers)))

xref-of : (marks rest : List MarkedByte) (r : Two) → behind_blanks marks ≡ rest → free_run true rest ≡ r → read_xref marks ≡ read_run r
unfolding read_xref
xref-of marks rest r at e = ap (λ l. read_run (free_run true l)) at ∙ ap read_run e

quote-stops : (inside : List MarkedByte) → stops_run true (quote ∷ inside) ≡ true
quote-stops inside = or_right (is_some (ending_at (quote ∷ inside))) true refl

no-ending-there : (inside : List MarkedByte) → ending_at (quote ∷ inside) ≡ None
unfolding ending_at
no-ending-there inside = refl

-- a run that is not empty, with a quote behind it
run-quote : (marks id inside : List MarkedByte) → IsBehindBlanks marks (id ++ quote ∷ inside) → 0 < length id → AllPass is_quoted_mark id → IsFree id (quote ∷ inside) → read_xref marks ≡ labelled (read_as (trim_end is_space id)) (quote ∷ inside)
run-quote marks id inside at some each free =
    xref-of marks (id ++ quote ∷ inside) (id, quote ∷ inside) (blanks-of marks (id ++ quote ∷ inside) at) (free-finds true id (quote ∷ inside) free (λ _. each) (quote-stops inside))
    ∙ (ap (λ b. cond {A = Answer QualifiedValue} b (Err syntax.NoValue) (found {B = Answer QualifiedValue} (ending_at (quote ∷ inside)) (labelled (read_as (trim_end is_space id)) (quote ∷ inside)) (λ (qualifiers : List Qualifier). Ok (qualified_value (xref (read_as (trim_end is_space id)) None) qualifiers)))) (ne_eqb (length id) 0 (λ e. omega (arith, e)))
    ∙ ap (λ o. found {B = Answer QualifiedValue} o (labelled (read_as (trim_end is_space id)) (quote ∷ inside)) (λ (qualifiers : List Qualifier). Ok (qualified_value (xref (read_as (trim_end is_space id)) None) qualifiers))) (no-ending-there inside))

quote-place : (inside rest : List MarkedByte) → AllPass is_quoted_mark inside → quoted_at (quote ∷ (inside ++ quote ∷ rest)) ≡ Ok (inside, rest)
quote-place inside rest each = quoted-finds (quote ∷ (inside ++ quote ∷ rest)) inside rest (record { blanks = []; whole = refl; blank = pass-nil is_space; each = each })

pub xref-refuses : (marks : List MarkedByte) (one : SyntaxKind) → WantsXref marks one → read_xref marks ≡ Err one
xref-refuses marks _ (WantsXref.missing rest qualifiers at is) =
    xref-of marks rest ([], rest) (blanks-of marks rest at) (free_run-stops true rest (or_left (is_some (ending_at rest)) (is_some (behind_sign 34 rest)) (ap is_some (ending-finds rest qualifiers is))))
xref-refuses marks _ (WantsXref.lone_label rest at) =
    xref-of marks (quote ∷ rest) ([], quote ∷ rest) (blanks-of marks (quote ∷ rest) at) (free_run-stops true (quote ∷ rest) (quote-stops rest))
xref-refuses marks _ (WantsXref.endless id rest at some each free quoted) =
    run-quote marks id rest at some each free
    ∙ not-on (quoted_at (quote ∷ rest)) (λ (label : Two). ended label.1 (xref (read_as (trim_end is_space id)) (Some (read_as label.0)))) syntax.OpenQuote (quoted-endless (quote ∷ rest) rest (record { blanks = []; whole = refl; blank = pass-nil is_space; stops = refl }) quoted)
xref-refuses marks _ (WantsXref.later id label rest text one at some each free q fails) =
    let inside = q.inside ++ quote ∷ rest in
    let all : label ++ rest ≡ quote ∷ inside = ap (λ l. l ++ rest) q.whole ∙ quoted-rest q.inside rest in
    let joined : id ++ label ++ rest ≡ id ++ quote ∷ inside = append_assoc id label rest ∙ ap (λ l. id ++ l) all in
    run-quote marks id inside (subst (IsBehindBlanks marks) joined at) some each (subst (IsFree id) all free)
    ∙ (on-with (quoted_at (quote ∷ inside)) (λ (label : Two). ended label.1 (xref (read_as (trim_end is_space id)) (Some (read_as label.0)))) (q.inside, rest) (quote-place q.inside rest q.each)
    ∙ ended-refuses rest (xref (read_as (trim_end is_space id)) (Some (read_as q.inside))) one fails)
