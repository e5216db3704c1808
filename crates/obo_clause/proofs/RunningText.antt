-- Runs of characters: the run that is read has no ending inside it, and a run with none is read whole.
use Rattle.std.proofs.Common.{◌≡◌, ◌<◌, Bool, true, false, not, ◌&&◌, cond, List, [], ◌∷◌, ◌++◌, Option, Some, None, is_some, length, refl, sym, ap, subst, ◌∙◌, arith, length-append}
use Rattle.std.specs.List.{AllPass}
use Rattle.std.proofs.lemmas.Bool.{false≢true, or_from, or_parts}
use Rattle.std.proofs.lemmas.List.{append_assoc}
use Rattle.obo_clause.specs.declared.clause.Qualifier.{Qualifier}
use Rattle.obo_clause.specs.Faults.{Stops, is_quote}
use Rattle.obo_clause.specs.Grammar.{AreBlanks, AreTrimmed, IsEnding, IsFree}
use Rattle.obo_clause.specs.Marks.{MarkedByte}
use Rattle.obo_clause.specs.Reading.{behind_blanks, behind_sign, ending_at, free_run, is_sign, stops_run, trim_end}
use Rattle.obo_clause.specs.Vocabulary.{is_quoted_mark, is_space}
use Rattle.obo_clause.proofs.EndingLemmas.{ending-begins, ending-finds, ending-found}
use Rattle.obo_clause.proofs.FreeLemmas.{free_run-goes, free_run-stops}
use Rattle.obo_clause.proofs.RunLemmas.{pass-append, pass-cons, pass-head, pass-nil, pass-right, pass-tail, trim_end-run, trimmed-run, trims}
use Rattle.obo_clause.proofs.SignLemmas.{behind_sign-none, is_quote-sign}
use Rattle.obo_clause.proofs.WordLemmas.{blanks-at, blanks-behind}

-- ---- no ending inside

pub no-ending : (marks : List MarkedByte) (qualifiers : List Qualifier) → ending_at marks ≡ None → ¬ IsEnding marks qualifiers
no-ending marks qualifiers none is = let both : Some qualifiers ≡ None = sym (ending-finds marks qualifiers is) ∙ none in cc

no-some : (o : Option (List Qualifier)) → is_some o ≡ false → o ≡ None
no-some None h = refl
no-some (Some one) h = cc

no-sign : (o : Option (List MarkedByte)) → is_some o ≡ false → o ≡ None
no-sign None h = refl
no-sign (Some one) h = cc

pub free-nil : (rest : List MarkedByte) → IsFree [] rest
free-nil rest [] after qualifiers e some = let nil : after ≡ [] = sym e in absurd (omega (arith, ap length nil))
free-nil rest (x ∷ before) after qualifiers e some = cc

free-cons : (mark : MarkedByte) (run rest : List MarkedByte) → ending_at (mark ∷ (run ++ rest)) ≡ None → IsFree run rest → IsFree (mark ∷ run) rest
free-cons mark run rest none free [] after qualifiers e some =
    let all : mark ∷ run ++ rest ≡ after ++ rest = ap (λ l. l ++ rest) e in
    λ is. no-ending (mark ∷ (run ++ rest)) qualifiers none (subst (λ l. IsEnding l qualifiers) (sym all) is)
free-cons mark run rest none free (x ∷ before) after qualifiers e some =
    let later : run ≡ before ++ after = cc in free before after qualifiers later some

pub free-tail : (mark : MarkedByte) (run rest : List MarkedByte) → IsFree (mark ∷ run) rest → IsFree run rest
free-tail mark run rest free before after qualifiers e some = free (mark ∷ before) after qualifiers (ap (λ l. mark ∷ l) e) some

-- none begins in a front of a run
pub free-left : (run more rest : List MarkedByte) → IsFree (run ++ more) rest → IsFree run (more ++ rest)
free-left run more rest free before after qualifiers e some is =
    let whole : run ++ more ≡ before ++ (after ++ more) = ap (λ l. l ++ more) e ∙ append_assoc before after more in
    let longer : 0 < length (after ++ more) = omega (arith, length-append after more) in
    free before (after ++ more) qualifiers whole longer (subst (λ l. IsEnding l qualifiers) (sym (append_assoc after more rest)) is)

blank-first : (after rest : List MarkedByte) → 0 < length after → AreBlanks after → ¬ Stops is_space (after ++ rest)
blank-first [] rest some blank stops = absurd (omega arith)
blank-first (x ∷ after) rest some blank stops = false≢true (sym stops ∙ pass-head is_space x after blank)

-- none begins in blanks
pub free-blanks : (run blanks rest : List MarkedByte) → IsFree run (blanks ++ rest) → AreBlanks blanks → IsFree (run ++ blanks) rest
free-blanks [] blanks rest free blank before after qualifiers e some is =
    blank-first after rest some (pass-right is_space before after (subst AreBlanks e blank)) (ending-begins is_space (after ++ rest) qualifiers is refl refl)
free-blanks (x ∷ run) blanks rest free blank [] after qualifiers e some is =
    let all : after ++ rest ≡ (x ∷ run) ++ (blanks ++ rest) = ap (λ l. l ++ rest) (sym e) ∙ append_assoc (x ∷ run) blanks rest in
    free [] (x ∷ run) qualifiers refl (omega arith) (subst (λ l. IsEnding l qualifiers) all is)
free-blanks (x ∷ run) blanks rest free blank (y ∷ before) after qualifiers e some is =
    let later : run ++ blanks ≡ before ++ after = cc in
    free-blanks run blanks rest (free-tail x run (blanks ++ rest) free) blank before after qualifiers later some is

-- ---- what is read

pub record IsFreeRun (at_quote : Bool) (marks run rest : List MarkedByte) : Type 0 where
  pub whole : marks ≡ run ++ rest
  pub free : IsFree run rest
  pub stops : stops_run at_quote rest ≡ true
  pub quoted : at_quote ≡ true → AllPass is_quoted_mark run

quoted-when : (at_quote : Bool) (mark : MarkedByte) (marks : List MarkedByte) → (at_quote && is_some (behind_sign 34 (mark ∷ marks))) ≡ false → at_quote ≡ true → is_quoted_mark mark ≡ true
quoted-when false mark marks h is = cc
quoted-when true mark marks h is =
    let none = behind_sign-none 34 (mark ∷ marks) (no-sign (behind_sign 34 (mark ∷ marks)) h) in
    ap not (is_quote-sign mark ∙ none)

free-step : (at_quote : Bool) (mark : MarkedByte) (marks : List MarkedByte) (b : Bool) → stops_run at_quote (mark ∷ marks) ≡ b → IsFreeRun at_quote marks (free_run at_quote marks).0 (free_run at_quote marks).1 → IsFreeRun at_quote (mark ∷ marks) (free_run at_quote (mark ∷ marks)).0 (free_run at_quote (mark ∷ marks)).1
free-step at_quote mark marks true e later =
    subst (λ (r : List MarkedByte × List MarkedByte). IsFreeRun at_quote (mark ∷ marks) r.0 r.1) (sym (free_run-stops at_quote (mark ∷ marks) e)) (record {
      whole = refl;
      free = free-nil (mark ∷ marks);
      stops = e;
      quoted = λ is. pass-nil is_quoted_mark;
    })
free-step at_quote mark marks false e later =
    let parts = or_parts (is_some (ending_at (mark ∷ marks))) (at_quote && is_some (behind_sign 34 (mark ∷ marks))) e in
    let none = no-some (ending_at (mark ∷ marks)) parts.0 in
    let run = (free_run at_quote marks).0 in
    let rest = (free_run at_quote marks).1 in
    subst (λ (r : List MarkedByte × List MarkedByte). IsFreeRun at_quote (mark ∷ marks) r.0 r.1) (sym (free_run-goes at_quote mark marks e)) (record {
      whole = ap (λ l. mark ∷ l) later.whole;
      free = free-cons mark run rest (ap (λ l. ending_at (mark ∷ l)) (sym later.whole) ∙ none) later.free;
      stops = later.stops;
      quoted = λ is. pass-cons is_quoted_mark mark run (quoted-when at_quote mark marks parts.1 is) (later.quoted is);
    })

pub nothing-stops : (at_quote : Bool) → stops_run at_quote [] ≡ true
unfolding ending_at
nothing-stops at_quote = refl

pub free-found : (at_quote : Bool) (marks : List MarkedByte) → IsFreeRun at_quote marks (free_run at_quote marks).0 (free_run at_quote marks).1
free-found at_quote [] =
    subst (λ (r : List MarkedByte × List MarkedByte). IsFreeRun at_quote [] r.0 r.1) (sym (free_run-stops at_quote [] (nothing-stops at_quote))) (record {
      whole = refl;
      free = free-nil [];
      stops = nothing-stops at_quote;
      quoted = λ is. pass-nil is_quoted_mark;
    })
free-found at_quote (mark ∷ marks) =
    free-step at_quote mark marks (stops_run at_quote (mark ∷ marks)) refl (free-found at_quote marks)

-- ---- what is there

goes-on : (at_quote : Bool) (mark : MarkedByte) (run rest : List MarkedByte) (o : Option (List Qualifier)) → ending_at (mark ∷ (run ++ rest)) ≡ o → IsFree (mark ∷ run) rest → (at_quote ≡ true → is_quoted_mark mark ≡ true) → stops_run at_quote (mark ∷ (run ++ rest)) ≡ false
goes-on at_quote mark run rest (Some qualifiers) e free quoted =
    absurd (free [] (mark ∷ run) qualifiers refl (omega arith) (ending-found (mark ∷ (run ++ rest)) qualifiers e))
goes-on at_quote mark run rest None e free quoted =
    or_from (is_some (ending_at (mark ∷ (run ++ rest)))) (at_quote && is_some (behind_sign 34 (mark ∷ (run ++ rest)))) (ap is_some e) (no-quote at_quote quoted)
  where
    unquoted : is_quoted_mark mark ≡ true → is_sign 34 mark ≡ false
    unquoted is = sym (is_quote-sign mark) ∙ not-true' (is_quote mark) is
      where
        not-true' : (b : Bool) → not b ≡ true → b ≡ false
        not-true' true h = cc
        not-true' false h = refl

    no-quote : (at_quote : Bool) → (at_quote ≡ true → is_quoted_mark mark ≡ true) → (at_quote && is_some (behind_sign 34 (mark ∷ (run ++ rest)))) ≡ false
    no-quote false quoted = refl
    no-quote true quoted = ap (λ b. is_some (cond {A = Option (List MarkedByte)} b (Some (run ++ rest)) None)) (unquoted (quoted refl))

pub free-finds : (at_quote : Bool) (run rest : List MarkedByte) → IsFree run rest → (at_quote ≡ true → AllPass is_quoted_mark run) → stops_run at_quote rest ≡ true → free_run at_quote (run ++ rest) ≡ (run, rest)
free-finds at_quote [] rest free quoted stops = free_run-stops at_quote rest stops
free-finds at_quote (mark ∷ run) rest free quoted stops =
    let goes = goes-on at_quote mark run rest (ending_at (mark ∷ (run ++ rest))) refl free (λ is. pass-head is_quoted_mark mark run (quoted is)) in
    let later = free-finds at_quote run rest (free-tail mark run rest free) (λ is. pass-tail is_quoted_mark mark run (quoted is)) stops in
    free_run-goes at_quote mark (run ++ rest) goes ∙ ap (λ (r : List MarkedByte × List MarkedByte). (mark ∷ r.0, r.1)) later

-- a run is read up to where it stops, with the blanks behind it
pub record TextAt (at_quote : Bool) (marks text rest : List MarkedByte) : Type 0 where
  pub run : List MarkedByte
  pub found : free_run at_quote (behind_blanks marks) ≡ (run, rest)
  pub trimmed : trim_end is_space run ≡ text
  pub some : 0 < length text → 0 < length run

trim-nothing : trim_end is_space [] ≡ []
unfolding trim_end
trim-nothing = refl

pub text-at : (at_quote : Bool) (before text between rest : List MarkedByte) → AreBlanks before → AreTrimmed text → IsFree text (between ++ rest) → AreBlanks between → (at_quote ≡ true → AllPass is_quoted_mark text) → stops_run at_quote rest ≡ true → Stops is_space rest → (at_quote ≡ true → AllPass is_quoted_mark between) → TextAt at_quote (before ++ (text ++ (between ++ rest))) text rest
text-at at_quote before [] between rest blank trimmed free after quoted stops begins also =
    let at : behind_blanks (before ++ (between ++ rest)) ≡ rest = ap behind_blanks (sym (append_assoc before between rest)) ∙ blanks-behind (before ++ between) rest (pass-append is_space before between blank after) begins in
    record { run = []; found = ap (free_run at_quote) at ∙ free_run-stops at_quote rest stops; trimmed = trim-nothing; some = λ more. more }
text-at at_quote before (x ∷ text) between rest blank trimmed free after quoted stops begins also =
    let run = (x ∷ text) ++ between in
    let whole : (x ∷ text) ++ (between ++ rest) ≡ run ++ rest = sym (append_assoc (x ∷ text) between rest) in
    let at : behind_blanks (before ++ ((x ∷ text) ++ (between ++ rest))) ≡ run ++ rest = blanks-behind before ((x ∷ text) ++ (between ++ rest)) blank (trimmed.begins x text refl) ∙ whole in
    record {
      run = run;
      found = ap (free_run at_quote) at ∙ free-finds at_quote run rest (free-blanks (x ∷ text) between rest free after) (λ is. pass-append is_quoted_mark (x ∷ text) between (quoted is) (also is)) stops;
      trimmed = trim_end-run is_space (x ∷ text) between trimmed.ends after;
      some = λ more. omega arith;
    }

stops-left : (test : MarkedByte → Bool) (run rest : List MarkedByte) → Stops test (run ++ rest) → Stops test run
stops-left test [] rest stops = tt
stops-left test (x ∷ run) rest stops = stops

-- what was read of a run
pub record ReadText (at_quote : Bool) (marks run rest : List MarkedByte) : Type 0 where
  pub before : List MarkedByte
  pub between : List MarkedByte
  pub whole : marks ≡ before ++ (trim_end is_space run ++ (between ++ rest))
  pub blank_before : AreBlanks before
  pub blank_between : AreBlanks between
  pub trimmed : AreTrimmed (trim_end is_space run)
  pub free : IsFree (trim_end is_space run) (between ++ rest)
  pub stops : stops_run at_quote rest ≡ true
  pub quoted : at_quote ≡ true → AllPass is_quoted_mark run
  pub at : behind_blanks marks ≡ run ++ rest
  pub free_run : IsFree run rest
  pub begins : Stops is_space run
  pub split : run ≡ trim_end is_space run ++ between

pub text-read : (at_quote : Bool) (marks : List MarkedByte) → ReadText at_quote marks (free_run at_quote (behind_blanks marks)).0 (free_run at_quote (behind_blanks marks)).1
text-read at_quote marks =
    let at = blanks-at marks in
    let is = free-found at_quote (behind_blanks marks) in
    let run = (free_run at_quote (behind_blanks marks)).0 in
    let rest = (free_run at_quote (behind_blanks marks)).1 in
    let t = trims is_space run in
    let begins = stops-left is_space run rest (subst (Stops is_space) is.whole at.stops) in
    record {
      before = at.blanks;
      between = t.blanks;
      whole = at.whole ∙ ap (λ l. at.blanks ++ l) (is.whole ∙ (ap (λ l. l ++ rest) t.whole ∙ append_assoc (trim_end is_space run) t.blanks rest));
      blank_before = at.blank;
      blank_between = t.blank;
      trimmed = trimmed-run is_space run begins;
      free = free-left (trim_end is_space run) t.blanks rest (subst (λ l. IsFree l rest) t.whole is.free);
      stops = is.stops;
      quoted = is.quoted;
      at = is.whole;
      free_run = is.free;
      begins = begins;
      split = t.whole;
    }
