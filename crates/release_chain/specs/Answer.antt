-- What is answered without the folder. (Own.)
use Rattle.std.specs.Prelude.{◌≡◌, Result, Ok, Err}
use Rattle.release_report.specs.Cause.{Cause, Refused, RanOut, cause_of}
use Rattle.release_report.specs.declared.fault.Fault.{Fault}

-- a refusal is the one that is told; memory may run out at any time; nothing else is answered
abbrev pub FailsBy : {A : Type 0} → Cause → Result A Fault → Fault → Type 0
FailsBy Refused told fault = told ≡ Err fault
FailsBy RanOut told fault = Unit {0}
FailsBy other told fault = ⊥

abbrev pub Answers : {A : Type 0} → Result A Fault → Result A Fault → Type 0
Answers told (Ok value) = told ≡ Ok value
Answers told (Err fault) = FailsBy (cause_of fault) told fault

-- one answer, and then what comes of it; a refusal ends it
abbrev pub then_answer : {A B : Type 0} → Result A Fault → (A → Result B Fault) → Result B Fault
then_answer (Ok value) next = next value
then_answer (Err fault) next = Err fault

-- the same of a state that this value tells
pub record IsAnswer {V A : Type 0} (Tells : V → A → Type 0) (told : Result A Fault) (value : V) : Type 0 where
  pub state : A
  pub answered : told ≡ Ok state
  pub seen : Tells value state

abbrev pub AnswersAs : {V A : Type 0} → (V → A → Type 0) → Result A Fault → Result V Fault → Type 0
AnswersAs Tells told (Ok value) = IsAnswer Tells told value
AnswersAs Tells told (Err fault) = FailsBy (cause_of fault) told fault
