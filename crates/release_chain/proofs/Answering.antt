-- How one answer and what comes of it are answered.
use Rattle.std.proofs.Common.{◌≡◌, Result, Ok, Err, ap, subst, sym}
use Rattle.release_report.specs.Cause.{Cause, Words, Refused, Absent, NotRead, NotWritten, NotReported, RanOut, cause_of}
use Rattle.release_report.specs.declared.fault.Fault.{Fault}
use Rattle.release_report.specs.declared.fault.Fault.TheVariants as fault
use Rattle.release_chain.specs.Answer.{AnswersAs, FailsBy, then_answer}

pub fails_first : {A B : Type 0} (cause : Cause) (first : Result A Fault) (next : A → Result B Fault) (one : Fault) → FailsBy cause first one → FailsBy cause (then_answer first next) one
fails_first Words first next one fails = fails
fails_first Refused first next one fails = ap (λ told. then_answer told next) fails
fails_first Absent first next one fails = fails
fails_first (NotRead name) first next one fails = fails
fails_first (NotWritten name) first next one fails = fails
fails_first NotReported first next one fails = fails
fails_first RanOut first next one fails = tt

-- a refusal ends it
pub refused_first : {V W A B : Type 0} (One : V → A → Type 0) (Other : W → B → Type 0) (first : Result A Fault) (next : A → Result B Fault) (one : Fault) → AnswersAs One first (Err one) → AnswersAs Other (then_answer first next) (Err one)
refused_first One Other first next one fails = fails_first (cause_of one) first next one fails

-- and else what comes of it is answered
pub answered_then : {V W A B : Type 0} (One : V → A → Type 0) (Other : W → B → Type 0) (first : Result A Fault) (next : A → Result B Fault) (value : V) (result : Result W Fault)
    → AnswersAs One first (Ok value) → ((state : A) → One value state → AnswersAs Other (next state) result) → AnswersAs Other (then_answer first next) result
answered_then One Other first next value result answer later =
    subst (λ told. AnswersAs Other (then_answer told next) result) (sym answer.answered) (later answer.state answer.seen)

-- where memory ran out, nothing is said
pub ran_out : {V A : Type 0} (Tells : V → A → Type 0) (told : Result A Fault) (one : Fault) → one ≡ fault.NoMemory → AnswersAs Tells told (Err one)
ran_out Tells told one is = subst (λ one. FailsBy (cause_of one) told one) (sym is) tt
