-- Runs: the longest front of a class is the one front of the class that what stands behind it stops. And what is left of
-- items without the blanks at their ends.
use Rattle.std.proofs.Common.{◌≡◌, ℕ, suc, ◌+◌, ◌<◌, Bool, true, false, cond, List, [], ◌∷◌, ◌++◌, length, drop, refl, sym, ap, subst, ◌∙◌, arith, take-append-drop}
use Rattle.std.specs.List.{AllPass, prefix_len}
use Rattle.std.proofs.lemmas.List.Elements.{All-append, All-cons, All-head, All-nil, All-tail}
use Rattle.std.proofs.lemmas.List.Sums.{take_while-cons}
use Rattle.obo_clause.specs.Faults.{Stops}
use Rattle.obo_clause.specs.Grammar.{IsTrimmed}
use Rattle.obo_clause.specs.Reading.{behind, front, kept, trim, trim_end}

module _ {A : Type 0} (p : A → Bool) where
  pub pass-nil : AllPass p []
  pass-nil = All-nil (λ x. p x ≡ true)

  pub pass-cons : (x : A) (xs : List A) → p x ≡ true → AllPass p xs → AllPass p (x ∷ xs)
  pass-cons x xs one all = All-cons (λ x. p x ≡ true) x xs one all

  pub pass-head : (x : A) (xs : List A) → AllPass p (x ∷ xs) → p x ≡ true
  pass-head x xs all = All-head (λ x. p x ≡ true) x xs all

  pub pass-tail : (x : A) (xs : List A) → AllPass p (x ∷ xs) → AllPass p xs
  pass-tail x xs all = All-tail (λ x. p x ≡ true) x xs all

  pub pass-append : (xs ys : List A) → AllPass p xs → AllPass p ys → AllPass p (xs ++ ys)
  pass-append xs ys one two = All-append (λ x. p x ≡ true) xs ys one two

  pub pass-left : (xs ys : List A) → AllPass p (xs ++ ys) → AllPass p xs
  pass-left [] ys all = pass-nil
  pass-left (x ∷ xs) ys all = pass-cons x xs (pass-head x (xs ++ ys) all) (pass-left xs ys (pass-tail x (xs ++ ys) all))

  pub pass-right : (xs ys : List A) → AllPass p (xs ++ ys) → AllPass p ys
  pass-right [] ys all = all
  pass-right (x ∷ xs) ys all = pass-right xs ys (pass-tail x (xs ++ ys) all)

  -- one item more
  pub front-cons : (x : A) (xs : List A) → front p (x ∷ xs) ≡ cond (p x) (x ∷ front p xs) []
  front-cons x xs = take_while-cons p x xs

  pub behind-cons : (x : A) (xs : List A) → behind p (x ∷ xs) ≡ cond (p x) (behind p xs) (x ∷ xs)
  behind-cons x xs =
      let step : (n : ℕ) → drop (1 + n) (x ∷ xs) ≡ drop n xs = λ n. let e : 1 + n ≡ suc n = omega arith in rw e refl in
      elim (p x) as (λ b. drop (cond b (1 + prefix_len p xs) 0) (x ∷ xs) ≡ cond b (behind p xs) (x ∷ xs)) [ true ↦ step (prefix_len p xs) | false ↦ refl ]

  pub front-takes : (x : A) (xs : List A) → p x ≡ true → front p (x ∷ xs) ≡ x ∷ front p xs
  front-takes x xs is = front-cons x xs ∙ ap (λ b. cond b (x ∷ front p xs) []) is

  pub front-leaves : (x : A) (xs : List A) → p x ≡ false → front p (x ∷ xs) ≡ []
  front-leaves x xs not = front-cons x xs ∙ ap (λ b. cond b (x ∷ front p xs) []) not

  pub behind-takes : (x : A) (xs : List A) → p x ≡ true → behind p (x ∷ xs) ≡ behind p xs
  behind-takes x xs is = behind-cons x xs ∙ ap (λ b. cond b (behind p xs) (x ∷ xs)) is

  pub behind-leaves : (x : A) (xs : List A) → p x ≡ false → behind p (x ∷ xs) ≡ x ∷ xs
  behind-leaves x xs not = behind-cons x xs ∙ ap (λ b. cond b (behind p xs) (x ∷ xs)) not

  pub run-whole : (xs : List A) → front p xs ++ behind p xs ≡ xs
  run-whole xs = take-append-drop (prefix_len p xs) xs

  passes-step : (x : A) (xs : List A) (b : Bool) → p x ≡ b → AllPass p (front p xs) → AllPass p (front p (x ∷ xs))
  passes-step x xs true e all = subst (AllPass p) (sym (front-takes x xs e)) (pass-cons x (front p xs) e all)
  passes-step x xs false e all = subst (AllPass p) (sym (front-leaves x xs e)) pass-nil

  pub run-passes : (xs : List A) → AllPass p (front p xs)
  run-passes [] = pass-nil
  run-passes (x ∷ xs) = passes-step x xs (p x) refl (run-passes xs)

  stops-step : (x : A) (xs : List A) (b : Bool) → p x ≡ b → Stops p (behind p xs) → Stops p (behind p (x ∷ xs))
  stops-step x xs true e stops = subst (Stops p) (sym (behind-takes x xs e)) stops
  stops-step x xs false e stops = subst (Stops p) (sym (behind-leaves x xs e)) e

  pub run-stops : (xs : List A) → Stops p (behind p xs)
  run-stops [] = tt
  run-stops (x ∷ xs) = stops-step x xs (p x) refl (run-stops xs)

  pub front-none : (xs : List A) → Stops p xs → front p xs ≡ []
  front-none [] stops = refl
  front-none (x ∷ xs) stops = front-leaves x xs stops

  pub behind-none : (xs : List A) → Stops p xs → behind p xs ≡ xs
  behind-none [] stops = refl
  behind-none (x ∷ xs) stops = behind-leaves x xs stops

  pub front-run : (run rest : List A) → AllPass p run → Stops p rest → front p (run ++ rest) ≡ run
  front-run [] rest all stops = front-none rest stops
  front-run (x ∷ run) rest all stops =
      front-takes x (run ++ rest) (pass-head x run all) ∙ ap (λ xs. x ∷ xs) (front-run run rest (pass-tail x run all) stops)

  pub behind-run : (run rest : List A) → AllPass p run → Stops p rest → behind p (run ++ rest) ≡ rest
  behind-run [] rest all stops = behind-none rest stops
  behind-run (x ∷ run) rest all stops =
      behind-takes x (run ++ rest) (pass-head x run all) ∙ behind-run run rest (pass-tail x run all) stops

  -- a run that is not empty begins with an item of its class
  pub stops-run : (q : A → Bool) → ((x : A) → p x ≡ true → q x ≡ false) → (run rest : List A) → 0 < length run → AllPass p run → Stops q (run ++ rest)
  stops-run q apart [] rest some all = absurd (omega arith)
  stops-run q apart (x ∷ run) rest some all = apart x (pass-head x run all)

  -- the last item is none of the class
  abbrev pub Ends : List A → Type 0
  Ends xs = (item : A) (rest : List A) → xs ≡ rest ++ item ∷ [] → p item ≡ false

  pub ends-nil : Ends []
  ends-nil item [] e = cc
  ends-nil item (x ∷ rest) e = cc

  ends-tail : (x : A) (xs : List A) → Ends (x ∷ xs) → Ends xs
  ends-tail x xs ends item rest e = ends item (x ∷ rest) (ap (λ l. x ∷ l) e)

  ends-one : (x : A) → p x ≡ false → Ends (x ∷ [])
  ends-one x not item [] e = let same : x ≡ item = cc in ap p (sym same) ∙ not
  ends-one x not item (y ∷ []) e = absurd (nothing-behind item (cc))
    where
      nothing-behind : (item : A) → [] ≡ item ∷ [] → ⊥
      nothing-behind item e = cc
  ends-one x not item (y ∷ z ∷ rest) e = cc

  ends-cons : (x y : A) (xs : List A) → Ends (y ∷ xs) → Ends (x ∷ y ∷ xs)
  ends-cons x y xs ends item [] e = cc
  ends-cons x y xs ends item (z ∷ rest) e = let later : y ∷ xs ≡ rest ++ item ∷ [] = cc in ends item rest later

  pub trim_end-blank : (xs : List A) → AllPass p xs → trim_end p xs ≡ []
  unfolding trim_end
  trim_end-blank [] all = refl
  trim_end-blank (x ∷ xs) all =
      ap (kept p x) (trim_end-blank xs (pass-tail x xs all)) ∙ ap (λ b. cond b [] (x ∷ [])) (pass-head x xs all)

  kept-last : (x : A) (xs : List A) → Ends (x ∷ xs) → kept p x xs ≡ x ∷ xs
  kept-last x [] ends = ap (λ b. cond b [] (x ∷ [])) (ends x [] refl)
  kept-last x (y ∷ xs) ends = refl

  pub trim_end-run : (xs blanks : List A) → Ends xs → AllPass p blanks → trim_end p (xs ++ blanks) ≡ xs
  unfolding trim_end
  trim_end-run [] blanks ends all = trim_end-blank blanks all
  trim_end-run (x ∷ xs) blanks ends all =
      ap (kept p x) (trim_end-run xs blanks (ends-tail x xs ends) all) ∙ kept-last x xs ends

  -- what trimming leaves and takes
  pub record Trimmed (xs kept : List A) : Type 0 where
    pub blanks : List A
    pub whole : xs ≡ kept ++ blanks
    pub blank : AllPass p blanks
    pub ends : Ends kept

  kept-step : (x : A) (xs kept_before : List A) (b : Bool) → p x ≡ b → Trimmed xs kept_before → Trimmed (x ∷ xs) (kept p x kept_before)
  kept-step x xs [] true e t = subst (Trimmed (x ∷ xs)) (sym (ap (λ b. cond b [] (x ∷ [])) e)) (record {
    blanks = x ∷ t.blanks;
    whole = ap (λ l. x ∷ l) t.whole;
    blank = pass-cons x t.blanks e t.blank;
    ends = ends-nil;
  })
  kept-step x xs [] false e t = subst (Trimmed (x ∷ xs)) (sym (ap (λ b. cond b [] (x ∷ [])) e)) (record {
    blanks = t.blanks;
    whole = ap (λ l. x ∷ l) t.whole;
    blank = t.blank;
    ends = ends-one x e;
  })
  kept-step x xs (y ∷ before) b e t = record {
    blanks = t.blanks;
    whole = ap (λ l. x ∷ l) t.whole;
    blank = t.blank;
    ends = ends-cons x y before t.ends;
  }

  pub trims : (xs : List A) → Trimmed xs (trim_end p xs)
  unfolding trim_end
  trims [] = record { blanks = []; whole = refl; blank = pass-nil; ends = ends-nil }
  trims (x ∷ xs) = kept-step x xs (trim_end p xs) (p x) refl (trims xs)

  -- what begins with no blank and is trimmed at the end has none at either end
  begins-of : (xs kept blanks : List A) → Stops p xs → xs ≡ kept ++ blanks → (item : A) (rest : List A) → kept ≡ item ∷ rest → p item ≡ false
  begins-of [] kept blanks stops e item rest is = let both : [] ≡ item ∷ (rest ++ blanks) = e ∙ ap (λ l. l ++ blanks) is in cc
  begins-of (x ∷ xs) kept blanks stops e item rest is =
      let both : x ∷ xs ≡ item ∷ (rest ++ blanks) = e ∙ ap (λ l. l ++ blanks) is in
      let same : x ≡ item = cc in ap p (sym same) ∙ stops

  pub trimmed-run : (xs : List A) → Stops p xs → IsTrimmed A p (trim_end p xs)
  trimmed-run xs stops =
      let t = trims xs in
      record { begins = begins-of xs (trim_end p xs) t.blanks stops t.whole; ends = t.ends }

  -- what has no blank at its beginning stops blanks
  pub trimmed-stops : (xs rest : List A) → IsTrimmed A p xs → 0 < length xs → Stops p (xs ++ rest)
  trimmed-stops [] rest trimmed some = absurd (omega arith)
  trimmed-stops (x ∷ xs) rest trimmed some = trimmed.begins x xs refl

  -- blanks around what has none at its ends are trimmed
  pub trim-run : (before xs after : List A) → AllPass p before → IsTrimmed A p xs → AllPass p after → trim p (before ++ (xs ++ after)) ≡ xs
  trim-run before [] after blank trimmed last =
      trim_end-blank (behind p (before ++ after)) (subst (λ l. AllPass p l) (sym (behind-all (before ++ after) (pass-append before after blank last))) pass-nil)
    where
      behind-all : (l : List A) → AllPass p l → behind p l ≡ []
      behind-all [] all = refl
      behind-all (x ∷ l) all = behind-takes x l (pass-head x l all) ∙ behind-all l (pass-tail x l all)
  trim-run before (x ∷ xs) after blank trimmed last =
      ap (trim_end p) (behind-run before (x ∷ (xs ++ after)) blank (trimmed.begins x xs refl)) ∙ trim_end-run (x ∷ xs) after trimmed.ends last
