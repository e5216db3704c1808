-- What each step writes, and how the steps go on.
use Rattle.std.proofs.Common.{◌≡◌, ℕ, ◌+◌, ◌<◌, Bool, true, false, ◌||◌, List, [], ◌∷◌, ◌++◌, Option, Some, None, Result, Ok, Err, refl, sym, ap, subst, ◌∙◌, length, drop, get_or, ◌≤◌, zero, suc, arith}
use Rattle.std.proofs.lemmas.List.{at_drop_all, at_drop_more}
use Rattle.std.proofs.lemmas.List.Folds.{list_any-append}
use Rattle.std.specs.List.{flat_map, list_any}
use Rattle.rel_io.specs.FolderState.{Files, FolderState, NoCountFell}
use Rattle.chain_words.specs.Command.{is_one_of, output_names, reads_of, writes_of}
use Rattle.chain_words.specs.Word.{Name, same}
use Rattle.chain_words.specs.declared.command.Output.{Output as Wanted}
use Rattle.chain_words.specs.declared.command.Step.{Step}
use Rattle.chain_words.specs.declared.command.Step.TheVariants.{Extract, Reason, Relax, Reduce, Convert}
use Rattle.release_report.specs.declared.fault.Fault.{Fault}
use Rattle.release_chain.specs.Ending.{Ends, SameAtAll}
use Rattle.release_chain.specs.Part.{answers, reads, then_do}
use Rattle.release_chain.specs.Trace.{Trace}
use Rattle.release_chain.specs.Steps.{checked, extracted_or, output_part, seed_in, step_part, steps_part, turn_part}
use Rattle.release_chain.specs.declared.work.Work.{Work}
use Rattle.release_chain.specs.inner.Names.{AreApart, all_read, all_written, put_names}
use Rattle.release_chain.specs.inner.Work.{HasForms, IsAt}
use Rattle.release_chain.proofs.Names.{names_then, same_after}
use Rattle.release_chain.proofs.Outputs.{rest_of}
use Rattle.release_chain.proofs.Parts.{first_fails, no_count_fell, none_fell, then_at}

-- a step and its output
abbrev pub Turn : Type 0
Turn = Step × Option Wanted

or_left : (a b : Bool) → a ≡ true → (a || b) ≡ true
or_left true b h = refl
or_left false b h = absurd (cc)

or_right : (a b : Bool) → b ≡ true → (a || b) ≡ true
or_right true b h = refl
or_right false b h = h

-- what passes a test in one of two lists passes it in both together
pub any_first : {Y : Type 0} (p : Y → Bool) (xs ys : List Y) → list_any p xs ≡ true → list_any p (xs ++ ys) ≡ true
any_first p xs ys here = list_any-append p xs ys ∙ or_left (list_any p xs) (list_any p ys) here

pub any_later : {Y : Type 0} (p : Y → Bool) (xs ys : List Y) → list_any p ys ≡ true → list_any p (xs ++ ys) ≡ true
any_later p xs ys here = list_any-append p xs ys ∙ or_right (list_any p xs) (list_any p ys) here

-- a step writes nothing itself
pub step_puts : (files : Files) (step : Step) (trace state : Trace) → (step_part files step trace).answer ≡ Ok state → put_names (step_part files step trace).acts ≡ []
step_puts files (Extract method terms) trace state is =
    names_then (reads files terms).acts (reads files terms).answer (λ bytes. answers (extracted_or method trace (seed_in terms trace.ontology bytes))) state [] [] is (λ _ _. refl) (λ _ _ _. refl)
step_puts files Reason trace state is = refl
step_puts files Relax trace state is = refl
step_puts files (Reduce keep) trace state is = refl
step_puts files Convert trace state is = refl

-- an output writes its file
pub output_puts : (output : Option Wanted) (trace state : Trace) → (output_part output trace).answer ≡ Ok state → put_names (output_part output trace).acts ≡ output_names output
output_puts None trace state is = refl
output_puts (Some file) trace state is =
    names_then [] (checked file trace) (λ _. rest_of file trace) state [] (file.name ∷ []) is (λ _ _. refl) (λ _ _ _. refl)

pub turn_puts : (files : Files) (turn : Turn) (trace state : Trace) → (turn_part files turn trace).answer ≡ Ok state → put_names (turn_part files turn trace).acts ≡ writes_of turn
turn_puts files turn trace state is =
    names_then (step_part files turn.0 trace).acts (step_part files turn.0 trace).answer (output_part turn.1) state [] (output_names turn.1) is
    (λ value e. step_puts files turn.0 trace value e) (λ value e done. output_puts turn.1 value state done)

-- ---- one turn after another

-- what passes a test where a list is taken from passes it in what was taken
at_flat_map : {X Y : Type 0} (h : X → List Y) (p : Y → Bool) (xs : List X) (k : ℕ) (x : X) → k < length xs → x ≡ get_or xs k x → list_any p (h x) ≡ true → list_any p (flat_map h xs) ≡ true
at_flat_map h p [] k x within is here = absurd (omega arith)
at_flat_map h p (y ∷ xs) zero x within is here = any_first p (h y) (flat_map h xs) (subst (λ z. list_any p (h z) ≡ true) is here)
at_flat_map h p (y ∷ xs) (suc k) x within is here = any_later p (h y) (flat_map h xs) (at_flat_map h p xs k x (omega arith) is here)

-- the names that the turn at a place writes are among those that all write
turn_writes : (turns : List Turn) (at : ℕ) (turn : Turn) (name : Name) → at < length turns → turn ≡ get_or turns at turn → is_one_of name (writes_of turn) ≡ true → is_one_of name (all_written turns) ≡ true
turn_writes turns at turn name within is here = at_flat_map writes_of (λ other. same other name) turns at turn within is here

turn_reads : (turns : List Turn) (at : ℕ) (turn : Turn) (name : Name) → at < length turns → turn ≡ get_or turns at turn → is_one_of name (reads_of turn.0) ≡ true → is_one_of name (all_read turns) ≡ true
turn_reads turns at turn name within is here = at_flat_map (λ (turn : Turn). reads_of turn.0) (λ other. same other name) turns at turn within is here

-- a name that is read is not one that the turn writes
turn_apart : (turns : List Turn) (at : ℕ) (turn : Turn) (name : Name) → AreApart turns → at < length turns → turn ≡ get_or turns at turn → is_one_of name (all_read turns) ≡ true → is_one_of name (writes_of turn) ≡ false
turn_apart turns at turn name apart within is reads =
    elim (is_one_of name (writes_of turn)) as (λ r. is_one_of name (writes_of turn) ≡ r → r ≡ false) [
      | true ↦ λ yes. let none : is_one_of name (all_read turns) ≡ false = apart name (turn_writes turns at turn name within is yes) in absurd (cc)
      | false ↦ λ _. refl
    ] refl

-- where the turns have come to: what the rest ends with, the whole ends with
pub record GoesOn (files : Files) (turns : List Turn) (trace : Trace) (before : Option Files) (at : ℕ) (work : Work) (now : Option Files) : Type 0 where
  pub state : Trace
  pub is_at : IsAt work state
  pub held : SameAtAll (all_read turns) files now
  pub rest : (result : Result Work Fault) (later : Option Files) → Ends IsAt (steps_part files (drop at turns) state) result now later → Ends IsAt (steps_part files turns trace) result before later

pub record Going (turns : List Turn) (first : Work) (before : FolderState) (at : ℕ) (work : Work) (now : FolderState) : Type 0 where
  pub counts : NoCountFell before now
  pub forms : HasForms work
  pub goes : (files : Files) (trace : Trace) → IsAt first trace → SameAtAll (all_read turns) files before.holds → GoesOn files turns trace before.holds at work now.holds

pub begins : (turns : List Turn) (first : Work) (before : FolderState) → HasForms first → Going turns first before 0 first before
begins turns first before forms = record {
  counts = none_fell before;
  forms = forms;
  goes = λ files trace is_at held. record { state = trace; is_at = is_at; held = held; rest = λ result later ends. ends };
}

-- what one turn says
abbrev pub TurnEnds : Turn → Work → FolderState → Result Work Fault → FolderState → Type 0
TurnEnds turn work before result now = (files : Files) (trace : Trace) → IsAt work trace → SameAtAll (reads_of turn.0) files before.holds → Ends IsAt (turn_part files turn trace) result before.holds now.holds

steps_at : (files : Files) (turns : List Turn) (at : ℕ) (turn : Turn) (state : Trace) → at < length turns → turn ≡ get_or turns at turn → steps_part files (drop at turns) state ≡ then_do (turn_part files turn state) (steps_part files (drop (at + 1) turns))
steps_at files turns at turn state within is = at_drop_more (λ turns. steps_part files turns state) turns at turn within ∙ ap (λ turn. steps_part files (turn ∷ drop (at + 1) turns) state) (sym is)

-- the files that a turn reads are held as they were
turn_held : (turns : List Turn) (at : ℕ) (turn : Turn) (files : Files) (now : Option Files) → at < length turns → turn ≡ get_or turns at turn → SameAtAll (all_read turns) files now → SameAtAll (reads_of turn.0) files now
turn_held turns at turn files now within is held name here = held name (turn_reads turns at turn name within is here)

pub goes_on : (turns : List Turn) (first : Work) (before : FolderState) (at : ℕ) (work : Work) (now : FolderState) (turn : Turn) (next : Work) (then : FolderState)
    → AreApart turns → Going turns first before at work now → at < length turns → turn ≡ get_or turns at turn → NoCountFell now then → HasForms next → TurnEnds turn work now (Ok next) then → Going turns first before (at + 1) next then
goes_on turns first before at work now turn next then apart going within is counts forms ends = record {
  counts = no_count_fell before now then going.counts counts;
  forms = forms;
  goes = λ files trace is_at held.
      let here = going.goes files trace is_at held in
      let told = ends files here.state here.is_at (turn_held turns at turn files now.holds within is here.held) in
      record {
        state = told.state;
        is_at = told.told;
        held = λ name reads.
            same_after (turn_part files turn here.state).acts name files now.holds then.holds
            (rw (turn_puts files turn here.state told.state told.done.answered) (turn_apart turns at turn name apart within is reads))
            told.done.did (here.held name reads);
        rest = λ result later rest.
            here.rest result later (rw (steps_at files turns at turn here.state within is)
            (then_at IsAt IsAt (turn_part files turn here.state) (steps_part files (drop (at + 1) turns)) next result now.holds then.holds later told rest));
      };
}

pub goes_wrong : (turns : List Turn) (first : Work) (before : FolderState) (at : ℕ) (work : Work) (now : FolderState) (turn : Turn) (fault : Fault) (then : FolderState) (files : Files) (trace : Trace)
    → Going turns first before at work now → at < length turns → turn ≡ get_or turns at turn → TurnEnds turn work now (Err fault) then → IsAt first trace → SameAtAll (all_read turns) files before.holds
    → Ends IsAt (steps_part files turns trace) (Err fault) before.holds then.holds
goes_wrong turns first before at work now turn fault then files trace going within is ends is_at held =
    let here = going.goes files trace is_at held in
    here.rest (Err fault) then.holds (rw (steps_at files turns at turn here.state within is)
    (first_fails IsAt IsAt (turn_part files turn here.state) (steps_part files (drop (at + 1) turns)) fault now.holds then.holds
    (ends files here.state here.is_at (turn_held turns at turn files now.holds within is here.held))))

pub goes_to_end : (turns : List Turn) (first : Work) (before : FolderState) (at : ℕ) (work : Work) (now : FolderState) (files : Files) (trace : Trace)
    → Going turns first before at work now → length turns ≤ at → IsAt first trace → SameAtAll (all_read turns) files before.holds → Ends IsAt (steps_part files turns trace) (Ok work) before.holds now.holds
goes_to_end turns first before at work now files trace going done is_at held =
    let here = going.goes files trace is_at held in
    here.rest (Ok work) now.holds (rw (at_drop_all (λ turns. steps_part files turns here.state) turns at done) (record {
      state = here.state;
      done = record { answered = refl; did = refl };
      told = here.is_at;
    }))
