-- Blanks, words and quoted texts: what the readers find is there, and what is there they find.
use Rattle.std.proofs.Common.{◌≡◌, ℕ, zero, suc, ◌<◌, ◌==◌, Bool, true, false, cond, List, [], ◌∷◌, ◌++◌, Option, Some, None, Ok, Err, length, refl, sym, ap, subst, ◌∙◌, ⊎_elim, arith}
use Rattle.std.specs.List.{AllPass}
use Rattle.std.specs.Option.{option_map}
use Rattle.std.proofs.lemmas.Bool.{eqb-true, ne_eqb}
use Rattle.std.proofs.lemmas.List.{append_assoc, append-nil, nil_from_length}
use Rattle.obo_clause.specs.declared.line.SyntaxKind.{SyntaxKind}
use Rattle.obo_clause.specs.declared.line.SyntaxKind.TheVariants as syntax
use Rattle.obo_clause.specs.Faults.{HasNoWord, HasWord, IsBehindBlanks, Stops, WantsQuoted, Wrong, is_quote}
use Rattle.obo_clause.specs.Grammar.{AreBlanks, IsQuoted, IsWord}
use Rattle.obo_clause.specs.Marks.{MarkedByte, bare, read_as}
use Rattle.obo_clause.specs.Reading.{Answer, behind, behind_blanks, behind_sign, end_of_quotes, front, inside_quotes, next, quoted_at, some_run, wanted, word_at}
use Rattle.obo_clause.specs.Vocabulary.{is_quoted_mark, is_space, is_word_mark, quote}
use Rattle.obo_clause.proofs.RunLemmas.{behind-run, front-none, front-run, run-passes, run-stops, run-whole, stops-run}
use Rattle.obo_clause.proofs.SignLemmas.{behind_sign-found, no_quote, quote_stops, quoted-stop, word-not_space}

-- what is read and the rest
abbrev pub Two : Type 0
Two = List MarkedByte × List MarkedByte

pub same-some : {A : Type 0} (x y : A) → Some x ≡ Some y → x ≡ y
same-some x y e = cc

pub same-ok : {A : Type 0} (x y : A) → ◌≡◌ {A = Answer A} (Ok x) (Ok y) → x ≡ y
same-ok x y e = cc

pub same-err : {A : Type 0} (x y : SyntaxKind) → ◌≡◌ {A = Answer A} (Err x) (Err y) → x ≡ y
same-err x y e = cc

-- ---- blanks

pub blanks-at : (marks : List MarkedByte) → IsBehindBlanks marks (behind_blanks marks)
blanks-at marks = record {
  blanks = front is_space marks;
  whole = sym (run-whole is_space marks);
  blank = run-passes is_space marks;
  stops = run-stops is_space marks;
}

pub blanks-of : (marks rest : List MarkedByte) → IsBehindBlanks marks rest → behind_blanks marks ≡ rest
blanks-of marks rest behind =
    ap behind_blanks behind.whole ∙ behind-run is_space behind.blanks rest behind.blank behind.stops

pub blanks-behind : (blanks rest : List MarkedByte) → AreBlanks blanks → Stops is_space rest → behind_blanks (blanks ++ rest) ≡ rest
blanks-behind blanks rest blank stops = behind-run is_space blanks rest blank stops

-- ---- words

-- blanks, a word and the rest
pub record HasRun (marks run rest : List MarkedByte) : Type 0 where
  pub blanks : List MarkedByte
  pub whole : marks ≡ blanks ++ (run ++ rest)
  pub blank : AreBlanks blanks
  pub some : 0 < length run
  pub each : AllPass is_word_mark run
  pub stops : Stops is_word_mark rest

pub run-begins : (run rest : List MarkedByte) → 0 < length run → AllPass is_word_mark run → Stops is_space (run ++ rest)
run-begins run rest some each = stops-run is_word_mark is_space word-not_space run rest some each

pub run-word : (marks run rest : List MarkedByte) → HasRun marks run rest → IsWord run (read_as run)
run-word marks run rest has = record { some = has.some; each = has.each; read = refl }

pub run-has : (marks run rest : List MarkedByte) → HasRun marks run rest → HasWord marks (read_as run) rest
run-has marks run rest has = record {
  all = run ++ rest;
  behind = record { blanks = has.blanks; whole = has.whole; blank = has.blank; stops = run-begins run rest has.some has.each };
  read = record { run = run; whole = refl; is_word = run-word marks run rest has; stops = has.stops };
}

some-step : (run rest word more : List MarkedByte) (b : Bool) → (length run == 0) ≡ b → cond {A = Option Two} b None (Some (run, rest)) ≡ Some (word, more) → (run ≡ word) × (rest ≡ more) × (0 < length run)
some-step run rest word more true e h = cc
some-step run rest word more false e h =
    let same = same-some (run, rest) (word, more) h in
    (ap (λ p. p.0) same, ap (λ p. p.1) same, longer (length run) e)
  where
    longer : (n : ℕ) → (n == 0) ≡ false → 0 < n
    longer zero e = cc
    longer (suc n) e = omega arith

none-step : (run rest : List MarkedByte) (b : Bool) → (length run == 0) ≡ b → cond {A = Option Two} b None (Some (run, rest)) ≡ None → run ≡ []
none-step run rest true e h = nil_from_length run (eqb-true (length run) 0 e)
none-step run rest false e h = cc

pub word-found : (marks run rest : List MarkedByte) → word_at marks ≡ Some (run, rest) → HasRun marks run rest
unfolding word_at
word-found marks run rest h =
    let all = behind_blanks marks in
    let parts = some-step (front is_word_mark all) (behind is_word_mark all) run rest (length (front is_word_mark all) == 0) refl h in
    let behind = blanks-at marks in
    record {
      blanks = behind.blanks;
      whole = behind.whole ∙ ap (λ l. behind.blanks ++ l) (sym (run-whole is_word_mark all) ∙ λ i. parts.0 i ++ parts.1 i);
      blank = behind.blank;
      some = subst (λ (l : List MarkedByte). 0 < length l) parts.0 parts.2;
      each = subst (AllPass is_word_mark) parts.0 (run-passes is_word_mark all);
      stops = subst (Stops is_word_mark) parts.1 (run-stops is_word_mark all);
    }

stops-front : (all : List MarkedByte) → front is_word_mark all ≡ [] → Stops is_word_mark all
stops-front all none =
    subst (Stops is_word_mark) (ap (λ l. l ++ behind is_word_mark all) (sym none) ∙ run-whole is_word_mark all) (run-stops is_word_mark all)

pub word-missing : (marks : List MarkedByte) → word_at marks ≡ None → HasNoWord marks
unfolding word_at
word-missing marks h =
    let all = behind_blanks marks in
    record { rest = all; behind = blanks-at marks; stops = stops-front all (none-step (front is_word_mark all) (behind is_word_mark all) (length (front is_word_mark all) == 0) refl h) }

some_run-some : (run rest : List MarkedByte) → 0 < length run → some_run run rest ≡ Some (run, rest)
some_run-some run rest some =
    ap (λ b. cond {A = Option Two} b None (Some (run, rest))) (ne_eqb (length run) 0 (λ e. omega (arith, e)))

pub word-finds : (marks run rest : List MarkedByte) → HasRun marks run rest → word_at marks ≡ Some (run, rest)
unfolding word_at
word-finds marks run rest has =
    let all : behind_blanks marks ≡ run ++ rest = ap behind_blanks has.whole ∙ blanks-behind has.blanks (run ++ rest) has.blank (run-begins run rest has.some has.each) in
    ap (λ l. some_run (front is_word_mark l) (behind is_word_mark l)) all
    ∙ ((λ i. some_run (front-run is_word_mark run rest has.each has.stops i) (behind-run is_word_mark run rest has.each has.stops i)) ∙ some_run-some run rest has.some)

pub word-none : (marks : List MarkedByte) → HasNoWord marks → word_at marks ≡ None
unfolding word_at
word-none marks no_word =
    ap (λ l. some_run (front is_word_mark l) (behind is_word_mark l)) (blanks-of marks no_word.rest no_word.behind)
    ∙ ap (λ l. some_run l (behind is_word_mark no_word.rest)) (front-none is_word_mark no_word.rest no_word.stops)

-- a word that is there is the one run
pub record WordRun (marks : List MarkedByte) (word : List ℕ) (rest : List MarkedByte) : Type 0 where
  pub run : List MarkedByte
  pub has : HasRun marks run rest
  pub read : read_as run ≡ word

pub word-run : (marks : List MarkedByte) (word : List ℕ) (rest : List MarkedByte) → HasWord marks word rest → WordRun marks word rest
word-run marks word rest has = record {
  run = has.read.run;
  has = record {
    blanks = has.behind.blanks;
    whole = has.behind.whole ∙ ap (λ l. has.behind.blanks ++ l) has.read.whole;
    blank = has.behind.blank;
    some = has.read.is_word.some;
    each = has.read.is_word.each;
    stops = has.read.stops;
  };
  read = has.read.is_word.read;
}

-- ---- quoted texts

inside-step : (run more inside rest : List MarkedByte) (o : Option (List MarkedByte)) → behind_sign 34 more ≡ o → option_map {U = Two} (λ (rest : List MarkedByte). (run, rest)) o ≡ Some (inside, rest) → (run ≡ inside) × (more ≡ quote ∷ rest)
inside-step run more inside rest None e h = cc
inside-step run more inside rest (Some later) e h =
    let same = same-some (run, later) (inside, rest) h in
    (ap (λ p. p.0) same, behind_sign-found 34 more later e ∙ ap (λ p. quote ∷ p.1) same)

-- the inside of a quoted text and what stands behind it
pub record HasInside (marks inside rest : List MarkedByte) : Type 0 where
  pub whole : marks ≡ inside ++ quote ∷ rest
  pub each : AllPass is_quoted_mark inside

pub inside-found : (marks inside rest : List MarkedByte) → inside_quotes marks ≡ Some (inside, rest) → HasInside marks inside rest
unfolding inside_quotes
inside-found marks inside rest h =
    let run = front is_quoted_mark marks in
    let more = behind is_quoted_mark marks in
    let parts = inside-step run more inside rest (behind_sign 34 more) refl h in
    record {
      whole = sym (run-whole is_quoted_mark marks) ∙ λ i. parts.0 i ++ parts.1 i;
      each = subst (AllPass is_quoted_mark) parts.0 (run-passes is_quoted_mark marks);
    }

inside-open : (run more : List MarkedByte) (o : Option (List MarkedByte)) → behind_sign 34 more ≡ o → Stops is_quoted_mark more → option_map {U = Two} (λ (rest : List MarkedByte). (run, rest)) o ≡ None → more ≡ []
inside-open run more (Some rest) e stops h = cc
inside-open run more None e stops h =
    ⊎_elim (λ nil. nil) (λ found. absurd (never found)) (quoted-stop more stops)
  where
    never : ((rest : List MarkedByte) × (more ≡ bare 34 ∷ rest)) → ⊥
    never found = let both : Some found.0 ≡ None = sym (ap (behind_sign 34) found.1) ∙ e in cc

pub inside-missing : (marks : List MarkedByte) → inside_quotes marks ≡ None → AllPass is_quoted_mark marks
unfolding inside_quotes
inside-missing marks h =
    let run = front is_quoted_mark marks in
    let more = behind is_quoted_mark marks in
    let nil = inside-open run more (behind_sign 34 more) refl (run-stops is_quoted_mark marks) h in
    let same : run ≡ marks = sym (append-nil run) ∙ (ap (λ l. run ++ l) (sym nil) ∙ run-whole is_quoted_mark marks) in
    subst (AllPass is_quoted_mark) same (run-passes is_quoted_mark marks)

pub inside-finds : (inside rest : List MarkedByte) → AllPass is_quoted_mark inside → inside_quotes (inside ++ quote ∷ rest) ≡ Some (inside, rest)
unfolding inside_quotes
inside-finds inside rest each =
    (λ i. option_map (λ (more : List MarkedByte). (front is_quoted_mark (inside ++ quote ∷ rest), more)) (behind_sign 34 (behind-run is_quoted_mark inside (quote ∷ rest) each refl i)))
    ∙ ap (λ l. Some (l, rest)) (front-run is_quoted_mark inside (quote ∷ rest) each refl)

pub inside-none : (marks : List MarkedByte) → AllPass is_quoted_mark marks → inside_quotes marks ≡ None
unfolding inside_quotes
inside-none marks each =
    let nil : behind is_quoted_mark marks ≡ [] = ap (behind is_quoted_mark) (sym (append-nil marks)) ∙ behind-run is_quoted_mark marks [] each tt in
    ap (λ l. option_map (λ (rest : List MarkedByte). (front is_quoted_mark marks, rest)) (behind_sign 34 l)) nil

-- blanks, a quoted text and the rest
pub record HasQuoted (marks inside rest : List MarkedByte) : Type 0 where
  pub blanks : List MarkedByte
  pub whole : marks ≡ blanks ++ (quote ∷ (inside ++ quote ∷ rest))
  pub blank : AreBlanks blanks
  pub each : AllPass is_quoted_mark inside

-- the marks of a quoted text
abbrev pub quoted_marks : List MarkedByte → List MarkedByte
quoted_marks inside = quote ∷ (inside ++ quote ∷ [])

pub quoted-is : (inside : List MarkedByte) → AllPass is_quoted_mark inside → IsQuoted (quoted_marks inside) (read_as inside)
quoted-is inside each = record { inside = inside; whole = refl; each = each; read = refl }

pub quoted-rest : (inside rest : List MarkedByte) → quoted_marks inside ++ rest ≡ quote ∷ (inside ++ quote ∷ rest)
quoted-rest inside rest = ap (λ l. quote ∷ l) (append_assoc inside (quote ∷ []) rest)

wanted-ok : {A : Type 0} (one : SyntaxKind) (o : Option A) (a : A) → wanted one o ≡ Ok a → o ≡ Some a
wanted-ok one None a h = cc
wanted-ok one (Some b) a h = cc

wanted-err : {A : Type 0} (one two : SyntaxKind) (o : Option A) → wanted one o ≡ Err two → (o ≡ None) × (one ≡ two)
wanted-err one two None h = (refl, cc)
wanted-err one two (Some b) h = cc

pub wanted-found : {A : Type 0} (one : SyntaxKind) (o : Option A) (a : A) → wanted one o ≡ Ok a → o ≡ Some a
wanted-found one o a h = wanted-ok one o a h

pub wanted-missing : {A : Type 0} (one two : SyntaxKind) (o : Option A) → wanted one o ≡ Err two → (o ≡ None) × (one ≡ two)
wanted-missing one two o h = wanted-err one two o h

quoted-ok : (marks inside rest : List MarkedByte) (o : Option (List MarkedByte)) → behind_sign 34 (behind_blanks marks) ≡ o → next (wanted syntax.NoQuote o) end_of_quotes ≡ Ok (inside, rest) → HasQuoted marks inside rest
quoted-ok marks inside rest None e h = cc
quoted-ok marks inside rest (Some more) e h =
    let at = blanks-at marks in
    let has = inside-found more inside rest (wanted-ok syntax.OpenQuote (inside_quotes more) (inside, rest) h) in
    record {
      blanks = at.blanks;
      whole = at.whole ∙ ap (λ l. at.blanks ++ l) (behind_sign-found 34 (behind_blanks marks) more e ∙ ap (λ l. quote ∷ l) has.whole);
      blank = at.blank;
      each = has.each;
    }

pub quoted-found : (marks inside rest : List MarkedByte) → quoted_at marks ≡ Ok (inside, rest) → HasQuoted marks inside rest
unfolding quoted_at
quoted-found marks inside rest h = quoted-ok marks inside rest (behind_sign 34 (behind_blanks marks)) refl h

quoted-err : (after : Wrong) (marks : List MarkedByte) (one : SyntaxKind) (o : Option (List MarkedByte)) → behind_sign 34 (behind_blanks marks) ≡ o → next (wanted syntax.NoQuote o) end_of_quotes ≡ Err one → WantsQuoted after marks one
quoted-err after marks one None e h =
    let same : syntax.NoQuote ≡ one = cc in
    subst (WantsQuoted after marks) same (WantsQuoted.missing (behind_blanks marks) (blanks-at marks) (quote_stops (behind_blanks marks) e))
quoted-err after marks one (Some more) e h =
    let open_quote = wanted-err syntax.OpenQuote one (inside_quotes more) h in
    let at = subst (IsBehindBlanks marks) (behind_sign-found 34 (behind_blanks marks) more e) (blanks-at marks) in
    subst (WantsQuoted after marks) open_quote.1 (WantsQuoted.endless more at (inside-missing more open_quote.0))

pub quoted-fails : (after : Wrong) (marks : List MarkedByte) (one : SyntaxKind) → quoted_at marks ≡ Err one → WantsQuoted after marks one
unfolding quoted_at
quoted-fails after marks one h = quoted-err after marks one (behind_sign 34 (behind_blanks marks)) refl h

pub quoted-finds : (marks inside rest : List MarkedByte) → HasQuoted marks inside rest → quoted_at marks ≡ Ok (inside, rest)
unfolding quoted_at
quoted-finds marks inside rest has =
    let at : behind_blanks marks ≡ quote ∷ (inside ++ quote ∷ rest) = ap behind_blanks has.whole ∙ blanks-behind has.blanks (quote ∷ (inside ++ quote ∷ rest)) has.blank refl in
    ap (λ l. next (wanted syntax.NoQuote (behind_sign 34 l)) end_of_quotes) at ∙ ap (wanted syntax.OpenQuote) (inside-finds inside rest has.each)

pub quoted-missing : (marks rest : List MarkedByte) → IsBehindBlanks marks rest → Stops is_quote rest → quoted_at marks ≡ Err syntax.NoQuote
unfolding quoted_at
quoted-missing marks rest at stops =
    ap (λ l. next (wanted syntax.NoQuote (behind_sign 34 l)) end_of_quotes) (blanks-of marks rest at) ∙ ap (λ o. next (wanted syntax.NoQuote o) end_of_quotes) (no_quote rest stops)

pub quoted-endless : (marks rest : List MarkedByte) → IsBehindBlanks marks (quote ∷ rest) → AllPass is_quoted_mark rest → quoted_at marks ≡ Err syntax.OpenQuote
unfolding quoted_at
quoted-endless marks rest at each =
    ap (λ l. next (wanted syntax.NoQuote (behind_sign 34 l)) end_of_quotes) (blanks-of marks (quote ∷ rest) at) ∙ ap (wanted syntax.OpenQuote) (inside-none rest each)
