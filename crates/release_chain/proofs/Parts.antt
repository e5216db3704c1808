-- How the endings of parts make the ending of what is put together of them.
use Rattle.std.proofs.Common.{◌≡◌, List, [], ◌∷◌, ◌++◌, Option, Result, Ok, Err, refl, sym, ap, subst, ◌∙◌, arith, append_assoc}
use Rattle.std.proofs.lemmas.List.{append-nil}
use Rattle.rel_io.specs.FolderState.{Files, FolderState, NoCountFell}
use Rattle.release_report.specs.Cause.{Cause, Words, Refused, Absent, NotRead, NotWritten, NotReported, RanOut, cause_of}
use Rattle.release_report.specs.declared.fault.Fault.{Fault}
use Rattle.release_chain.specs.Answer.{Answers, AnswersAs, FailsBy}
use Rattle.release_chain.specs.Ending.{Caused, Counted, Did, Ends, IsDone, IsTold, StopsBy}
use Rattle.release_chain.specs.Part.{Act, Opens, Part, Puts, answers, then_by, then_do}
use Rattle.release_chain.specs.Trace.{Trace}
use Rattle.release_chain.specs.inner.Work.{IsAt}
use Rattle.owl_axioms.specs.Names.{all_names}
use Rattle.owl_ontology.specs.Ontology.{axioms_of}
use Rattle.owl_sem.proofs.Keeps.{keeping_is_reflexive}
use Rattle.release_chain.specs.declared.work.Work.{Work}

-- first these acts and then those
pub did_both : (first second : List Act) (before mid now : Option Files) → Did first before mid → Did second mid now → Did (first ++ second) before now
did_both [] second before mid now a b = subst (λ (held : Option Files). Did second held now) a b
did_both (Opens name ∷ first) second before mid now a b = did_both first second before mid now a b
did_both (Puts output ∷ first) second before mid now a b = (a.0, a.1, did_both first second _ mid now a.2 b)

-- these acts, and then a part
abbrev pub behind : {A : Type 0} → List Act → Part A → Part A
behind acts part = record { acts = acts ++ part.acts; answer = part.answer }

stops_behind : {A : Type 0} (cause : Cause) (acts : List Act) (part : Part A) (fault : Fault) (before mid now : Option Files) → Did acts before mid → StopsBy cause part fault mid now → StopsBy cause (behind acts part) fault before now
stops_behind Words acts part fault before mid now did stops = stops
stops_behind Refused acts part fault before mid now did stops = record { answered = stops.answered; did = did_both acts part.acts before mid now did stops.did }
stops_behind Absent acts part fault before mid now did stops = record { answered = stops.answered; did = did_both acts part.acts before mid now did stops.did }
stops_behind (NotRead name) acts part fault before mid now did stops = record {
  done = acts ++ stops.done;
  rest = stops.rest;
  in_order = ap (λ xs. acts ++ xs) stops.in_order ∙ sym (append_assoc acts stops.done (Opens name ∷ stops.rest));
  did = did_both acts stops.done before mid now did stops.did;
}
stops_behind (NotWritten name) acts part fault before mid now did stops = record {
  done = acts ++ stops.done;
  output = stops.output;
  rest = stops.rest;
  in_order = ap (λ xs. acts ++ xs) stops.in_order ∙ sym (append_assoc acts stops.done (Puts stops.output ∷ stops.rest));
  named = stops.named;
  between = stops.between;
  did = did_both acts stops.done before mid stops.between did stops.did;
  others = stops.others;
}
stops_behind NotReported acts part fault before mid now did stops = stops
stops_behind RanOut acts part fault before mid now did stops = record {
  done = acts ++ stops.done;
  rest = stops.rest;
  in_order = ap (λ xs. acts ++ xs) stops.in_order ∙ sym (append_assoc acts stops.done stops.rest);
  did = did_both acts stops.done before mid now did stops.did;
}

-- an ending behind acts that were done
pub ends_behind : {V A : Type 0} (Tells : V → A → Type 0) (acts : List Act) (part : Part A) (result : Result V Fault) (before mid now : Option Files) → Did acts before mid → Ends Tells part result mid now → Ends Tells (behind acts part) result before now
ends_behind Tells acts part (Ok value) before mid now did ends = record {
  state = ends.state;
  done = record { answered = ends.done.answered; did = did_both acts part.acts before mid now did ends.done.did };
  told = ends.told;
}
ends_behind Tells acts part (Err fault) before mid now did ends = stops_behind (cause_of fault) acts part fault before mid now did ends

-- where the first part is done, the whole ends as what comes of its answer
pub then_at : {V W A B : Type 0} (Tells : V → A → Type 0) (Shows : W → B → Type 0) (part : Part A) (next : A → Part B) (value : V) (result : Result W Fault) (before mid now : Option Files)
    → (first : IsTold Tells part value before mid) → Ends Shows (next first.state) result mid now → Ends Shows (then_do part next) result before now
then_at Tells Shows part next value result before mid now first second =
    subst (λ answer. Ends Shows (then_by part.acts answer next) result before now) (sym first.done.answered)
    (ends_behind Shows part.acts (next first.state) result before mid now first.done.did second)

pub then_ends : {V W A B : Type 0} (Tells : V → A → Type 0) (Shows : W → B → Type 0) (part : Part A) (next : A → Part B) (value : V) (result : Result W Fault) (before mid now : Option Files)
    → IsTold Tells part value before mid → ((state : A) → Tells value state → Ends Shows (next state) result mid now) → Ends Shows (then_do part next) result before now
then_ends Tells Shows part next value result before mid now first second = then_at Tells Shows part next value result before mid now first (second first.state first.told)

-- the acts of the first part stand first
acts_first : {A B : Type 0} (acts : List Act) (answer : Result A Fault) (next : A → Part B) → (more : List Act) × ((then_by acts answer next).acts ≡ acts ++ more)
acts_first acts (Ok value) next = ((next value).acts, refl)
acts_first acts (Err fault) next = ([], sym (append-nil acts))

first_stops : {A B : Type 0} (cause : Cause) (part : Part A) (next : A → Part B) (fault : Fault) (before now : Option Files) → StopsBy cause part fault before now → StopsBy cause (then_do part next) fault before now
first_stops Words part next fault before now stops = stops
first_stops Refused part next fault before now stops =
    subst (λ answer. IsDone (then_by part.acts answer next) (Err fault) before now) (sym stops.answered) (record { answered = refl; did = stops.did })
first_stops Absent part next fault before now stops =
    subst (λ answer. IsDone (then_by part.acts answer next) (Err fault) before now) (sym stops.answered) (record { answered = refl; did = stops.did })
first_stops (NotRead name) part next fault before now stops =
    let first = acts_first part.acts part.answer next in
    record {
      done = stops.done;
      rest = stops.rest ++ first.0;
      in_order = first.1 ∙ ap (λ xs. xs ++ first.0) stops.in_order ∙ append_assoc stops.done (Opens name ∷ stops.rest) first.0;
      did = stops.did;
    }
first_stops (NotWritten name) part next fault before now stops =
    let first = acts_first part.acts part.answer next in
    record {
      done = stops.done;
      output = stops.output;
      rest = stops.rest ++ first.0;
      in_order = first.1 ∙ ap (λ xs. xs ++ first.0) stops.in_order ∙ append_assoc stops.done (Puts stops.output ∷ stops.rest) first.0;
      named = stops.named;
      between = stops.between;
      did = stops.did;
      others = stops.others;
    }
first_stops NotReported part next fault before now stops = stops
first_stops RanOut part next fault before now stops =
    let first = acts_first part.acts part.answer next in
    record {
      done = stops.done;
      rest = stops.rest ++ first.0;
      in_order = first.1 ∙ ap (λ xs. xs ++ first.0) stops.in_order ∙ append_assoc stops.done stops.rest first.0;
      did = stops.did;
    }

-- where the first part stops, the whole does
pub first_fails : {V W A B : Type 0} (Tells : V → A → Type 0) (Shows : W → B → Type 0) (part : Part A) (next : A → Part B) (fault : Fault) (before now : Option Files)
    → Ends Tells part (Err fault) before now → Ends Shows (then_do part next) (Err fault) before now
first_fails Tells Shows part next fault before now ends = first_stops (cause_of fault) part next fault before now ends

-- memory ran out before anything was done
pub ran_out_first : {A : Type 0} (part : Part A) (fault : Fault) (before now : Option Files) → now ≡ before → StopsBy RanOut part fault before now
ran_out_first part fault before now same = record { done = []; rest = part.acts; in_order = refl; did = same }

answer_fails : {A : Type 0} (cause : Cause) (told : Result A Fault) (fault : Fault) (before now : Option Files) → now ≡ before → FailsBy cause told fault → StopsBy cause (answers told) fault before now
answer_fails Words told fault before now same fails = fails
answer_fails Refused told fault before now same fails = record { answered = fails; did = same }
answer_fails Absent told fault before now same fails = absurd fails
answer_fails (NotRead name) told fault before now same fails = absurd fails
answer_fails (NotWritten name) told fault before now same fails = absurd fails
answer_fails NotReported told fault before now same fails = fails
answer_fails RanOut told fault before now same fails = ran_out_first (answers told) fault before now same

-- what is answered without the folder
pub answer_ends : {V A : Type 0} (Tells : V → A → Type 0) (told : Result A Fault) (result : Result V Fault) (before now : Option Files) → now ≡ before → AnswersAs Tells told result → Ends Tells (answers told) result before now
answer_ends Tells told (Ok value) before now same answer = record {
  state = answer.state;
  done = record { answered = answer.answered; did = same };
  told = answer.seen;
}
answer_ends Tells told (Err fault) before now same answer = answer_fails (cause_of fault) told fault before now same answer

fails_counted : {A : Type 0} (cause : Cause) (told : Result A Fault) (fault : Fault) (before now : FolderState) → FailsBy cause told fault → Counted cause before now
fails_counted Words told fault before now fails = fails
fails_counted Refused told fault before now fails = tt
fails_counted Absent told fault before now fails = absurd fails
fails_counted (NotRead name) told fault before now fails = absurd fails
fails_counted (NotWritten name) told fault before now fails = absurd fails
fails_counted NotReported told fault before now fails = fails
fails_counted RanOut told fault before now fails = tt

pub answer_caused : {V A : Type 0} (Tells : V → A → Type 0) (told : Result A Fault) (result : Result V Fault) (before now : FolderState) → AnswersAs Tells told result → Caused result before now
answer_caused Tells told (Ok value) before now answer = tt
answer_caused Tells told (Err fault) before now answer = fails_counted (cause_of fault) told fault before now answer

-- what was counted later was counted
counted_later : (cause : Cause) (before mid now : FolderState) → NoCountFell before mid → Counted cause mid now → Counted cause before now
counted_later Words before mid now counts counted = counted
counted_later Refused before mid now counts counted = tt
counted_later Absent before mid now counts counted = let h = counts.misses in omega arith
counted_later (NotRead name) before mid now counts counted = let h = counts.read_faults in omega arith
counted_later (NotWritten name) before mid now counts counted = let h = counts.write_faults in omega arith
counted_later NotReported before mid now counts counted = counted
counted_later RanOut before mid now counts counted = tt

pub caused_later : {V : Type 0} (result : Result V Fault) (before mid now : FolderState) → NoCountFell before mid → Caused result mid now → Caused result before now
caused_later (Ok value) before mid now counts caused = tt
caused_later (Err fault) before mid now counts caused = counted_later (cause_of fault) before mid now counts caused

pub no_count_fell : (a b c : FolderState) → NoCountFell a b → NoCountFell b c → NoCountFell a c
no_count_fell a b c p q = record {
  read_faults = let h = p.read_faults in let k = q.read_faults in omega arith;
  write_faults = let h = p.write_faults in let k = q.write_faults in omega arith;
  misses = let h = p.misses in let k = q.misses in omega arith;
}

pub none_fell : (a : FolderState) → NoCountFell a a
none_fell a = record { read_faults = omega arith; write_faults = omega arith; misses = omega arith }

-- the same value is told and seen
pub answer_is : {A : Type 0} (told : Result A Fault) (result : Result A Fault) → Answers told result → AnswersAs (λ (value state : A). value ≡ state) told result
answer_is told (Ok value) answer = record { state = value; answered = answer; seen = refl }
answer_is told (Err fault) answer = answer

-- a state that the program's own is of
pub some_trace : Work → Trace
some_trace work = record { merged = work.ontology; ontology = work.ontology; scope = all_names; files = work.files; entries = work.entries }

pub some_trace-is_at : (work : Work) → IsAt work (some_trace work)
unfolding some_trace
some_trace-is_at work = record { ontology = refl; files = refl; entries = refl; keeps = keeping_is_reflexive (axioms_of work.ontology.entries) all_names }

-- what comes of an answer that was told
pub answered_ends : {W A B : Type 0} (Shows : W → B → Type 0) (told : Result A Fault) (next : A → Part B) (value : A) (result : Result W Fault) (before now : Option Files)
    → told ≡ Ok value → Ends Shows (next value) result before now → Ends Shows (then_do (answers told) next) result before now
answered_ends Shows told next value result before now is ends =
    subst (λ answer. Ends Shows (then_by [] answer next) result before now) (sym is) ends
