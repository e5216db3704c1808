-- What the loop over a run of characters keeps true.
use Rattle.std.proofs.Common.{◌≡◌, ℕ, ◌+◌, ◌-◌, ◌<◌, ◌≤◌, Bool, true, false, List, [], ◌∷◌, ◌++◌, Some, length, get_or, take, drop, refl, sym, ap, ◌∙◌, arith, add-one, drop-cons, length-drop}
use Rattle.std.proofs.lemmas.List.{append_assoc, append-nil, drop_all, take_more}
use Rattle.std.proofs.Math.Seq.{take-length}
use Rattle.obo_clause.specs.Marks.{MarkedByte, bare}
use Rattle.obo_clause.specs.Reading.{ending_at, free_run, stops_run}

-- what `&marks[k..]` gives
pub slice-rest : (marks : List MarkedByte) (k : ℕ) → take (length marks - k) (drop k marks) ≡ drop k marks
slice-rest marks k = rw (sym (length-drop k marks)) (take-length (drop k marks))

pub free_run-stops : (at_quote : Bool) (marks : List MarkedByte) → stops_run at_quote marks ≡ true → free_run at_quote marks ≡ ([], marks)
unfolding free_run
free_run-stops at_quote [] stops = refl
free_run-stops at_quote (mark ∷ marks) stops = rw stops refl

pub free_run-goes : (at_quote : Bool) (mark : MarkedByte) (marks : List MarkedByte) → stops_run at_quote (mark ∷ marks) ≡ false → free_run at_quote (mark ∷ marks) ≡ (mark ∷ (free_run at_quote marks).0, (free_run at_quote marks).1)
unfolding free_run
free_run-goes at_quote mark marks goes = rw goes refl

-- the run goes on up to here, and from here on as the run of the rest does
pub record RunsFree (at_quote : Bool) (marks : List MarkedByte) (place : ℕ) : Type 0 where
  pub within : place ≤ length marks
  pub run : take place marks ++ (free_run at_quote (drop place marks)).0 ≡ (free_run at_quote marks).0
  pub rest : (free_run at_quote (drop place marks)).1 ≡ (free_run at_quote marks).1

pub free-begin : (at_quote : Bool) (marks : List MarkedByte) → RunsFree at_quote marks 0
free-begin at_quote marks = record { within = omega arith; run = refl; rest = refl }

module _ (at_quote : Bool) (marks : List MarkedByte) (place : ℕ) where
  pub free-stop : RunsFree at_quote marks place → stops_run at_quote (drop place marks) ≡ true → (take place marks, drop place marks) ≡ free_run at_quote marks
  free-stop runs stops =
      let e = free_run-stops at_quote (drop place marks) stops in
      let one : take place marks ≡ (free_run at_quote marks).0 = sym (append-nil (take place marks)) ∙ (ap (λ r. take place marks ++ r.0) (sym e) ∙ runs.run) in
      let two : drop place marks ≡ (free_run at_quote marks).1 = ap (λ r. r.1) (sym e) ∙ runs.rest in
      λ i. (one i, two i)

  pub free-on : RunsFree at_quote marks place → place < length marks → stops_run at_quote (drop place marks) ≡ false → RunsFree at_quote marks (place + 1)
  free-on runs less goes =
      let mark = get_or marks place (bare 0) in
      let split : drop place marks ≡ mark ∷ drop (place + 1) marks = rw add-one (drop-cons marks place (bare 0) less) in
      let goes' : stops_run at_quote (mark ∷ drop (place + 1) marks) ≡ false = ap (stops_run at_quote) (sym split) ∙ goes in
      let e : free_run at_quote (drop place marks) ≡ (mark ∷ (free_run at_quote (drop (place + 1) marks)).0, (free_run at_quote (drop (place + 1) marks)).1) = ap (free_run at_quote) split ∙ free_run-goes at_quote mark (drop (place + 1) marks) goes' in
      record {
        within = omega arith;
        run = ap (λ front. front ++ (free_run at_quote (drop (place + 1) marks)).0) (take_more marks place (bare 0) less) ∙ (append_assoc (take place marks) (mark ∷ []) (free_run at_quote (drop (place + 1) marks)).0 ∙ (ap (λ r. take place marks ++ r.0) (sym e) ∙ runs.run));
        rest = ap (λ r. r.1) (sym e) ∙ runs.rest;
      }

  nothing-left : length marks ≤ place → drop place marks ≡ []
  nothing-left least = drop_all place marks least

  pub free-end : RunsFree at_quote marks place → length marks ≤ place → (take place marks, drop place marks) ≡ free_run at_quote marks
  unfolding ending_at
  free-end runs least = free-stop runs (ap (stops_run at_quote) (nothing-left least))

  pub ending-end : length marks ≤ place → Some [] ≡ ending_at (drop place marks)
  unfolding ending_at
  ending-end least = ap ending_at (sym (nothing-left least))
