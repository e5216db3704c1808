-- What an ending of the program says, clause by clause, over the words, the fault, and what stands outside before the call
-- and after it. If a chain ends with status 0, each file that it wrote is the text of axioms that follow from the merged
-- axioms, and every finite model of them agrees, on the same domain, over the names common to all seeds before it, with a
-- model of the merged axioms; every other ending names its cause. (Own.)
use Rattle.std.specs.Prelude.{◌≡◌, ◌≢◌, ◌⊎◌, ℕ, List, [], ◌∷◌, Option, Some, None, Result, Err, IfErr, IfOk, IfSome}
use Rattle.std.specs.FinMap.{get}
use Rattle.std.specs.Result.{result_err}
use Rattle.rel_io.specs.Count.{Rose}
use Rattle.rel_io.specs.FolderState.{Files, FolderState}
use Rattle.rel_io.specs.Sink.{Appends, SinkState, WritesPart}
use Rattle.chain_words.specs.Word.{Word}
use Rattle.chain_words.specs.declared.command.Command.{Command}
use Rattle.release_report.specs.Cause.{Cause, Words, Refused, Absent, NotRead, NotWritten, NotReported, RanOut, cause_of}
use Rattle.release_report.specs.EntryText.{report_text}
use Rattle.release_report.specs.FaultText.{fault_text}
use Rattle.release_report.specs.declared.fault.Fault.{Fault}
use Rattle.release_report.specs.declared.fault.Fault.TheVariants.{NoMemory}
use Rattle.release_chain.specs.Ending.{Did, IsCut, IsCutAtOpening, IsCutAtOutput}
use Rattle.release_chain.specs.Outputs.{Fits}
use Rattle.release_chain.specs.Part.{Act, Opens, Output, Part, Puts}
use Rattle.release_chain.specs.Trace.{Trace}
use Rattle.release_chain.specs.Run.{OfRun, asked}

-- what stands outside the program
pub record Outside : Type 0 where
  pub folder : FolderState
  pub out : SinkState
  pub err : SinkState

abbrev pub outside : FolderState → SinkState → SinkState → Outside
outside folder out err = record { folder = folder; out = out; err = err }

-- this is said of the run of the words over the files before the call
abbrev pub OfItsRun : List Word → Outside → (Part Trace → Type 0) → Type 0
OfItsRun words before Says = OfRun words before.folder.holds Says

-- this holds of each output among the acts
abbrev pub PutsAll : (Output → Type 0) → List Act → Type 0
PutsAll P [] = Unit {0}
PutsAll P (Opens name ∷ acts) = PutsAll P acts
PutsAll P (Puts output ∷ acts) = P output × PutsAll P acts

-- ---- an ending with status 0

-- a file of this name is held, and its bytes are the text of axioms that keep the merged ones over their scope
pub record IsReleased (now : Option Files) (output : Output) : Type 0 where
  pub bytes : List ℕ
  pub fits : Fits output.made bytes
  pub held : IfSome now (λ files. get files output.name ≡ Some bytes)

abbrev pub Released : List Word → Outside → Option Fault → Outside → Type 0
Released words before fault now = fault ≡ None → OfItsRun words before (λ run. PutsAll (IsReleased now.folder.holds) run.acts)

-- the ending is that of the run
pub record EndsAs (run : Part Trace) (fault : Option Fault) (before now : Outside) : Type 0 where
  pub refusal : result_err run.answer ≡ fault
  pub did : Did run.acts before.folder.holds now.folder.holds

-- nothing else changed: what the run does was done, and nothing else
abbrev pub NothingElse : List Word → Outside → Option Fault → Outside → Type 0
NothingElse words before fault now = fault ≡ None → OfItsRun words before (λ run. EndsAs run None before now)

-- ---- every other ending names its cause

-- by the cause of a fault: where the run stopped
abbrev pub Stopped : Cause → Fault → Part Trace → Outside → Outside → Type 0
Stopped Words fault run before now = EndsAs run (Some fault) before now
Stopped Refused fault run before now = EndsAs run (Some fault) before now
Stopped Absent fault run before now = EndsAs run (Some fault) before now
Stopped (NotRead name) fault run before now = IsCutAtOpening run.acts name before.folder.holds now.folder.holds
Stopped (NotWritten name) fault run before now = IsCutAtOutput run.acts name before.folder.holds now.folder.holds
Stopped NotReported fault run before now = EndsAs run None before now
Stopped RanOut fault run before now = IsCut run.acts before.folder.holds now.folder.holds

-- and what it has counted
abbrev pub CauseCounted : Cause → Outside → Outside → Type 0
CauseCounted Words before now = Unit {0}
CauseCounted Refused before now = Unit {0}
CauseCounted Absent before now = Rose before.folder.misses now.folder.misses
CauseCounted (NotRead name) before now = Rose before.folder.read_faults now.folder.read_faults
CauseCounted (NotWritten name) before now = Rose before.folder.write_faults now.folder.write_faults
CauseCounted NotReported before now = Rose before.out.faults now.out.faults
CauseCounted RanOut before now = Unit {0}

abbrev pub Counts : Option Fault → Outside → Outside → Type 0
Counts fault before now = (one : Fault) → fault ≡ Some one → CauseCounted (cause_of one) before now

abbrev pub Stops : List Word → Outside → Option Fault → Outside → Type 0
Stops words before fault now = (one : Fault) → fault ≡ Some one → OfItsRun words before (λ run. Stopped (cause_of one) one run before now)

-- ---- when each comes

-- wrong words are refused in every run, unless memory ran out; nothing else is called so; and nothing was touched
pub record IsWordsRefused (told : Result Command Fault) (before : Outside) (fault : Option Fault) (now : Outside) : Type 0 where
  pub always : IfErr told (λ refusal. (fault ≡ Some refusal) ⊎ (fault ≡ Some NoMemory))
  pub only : (one : Fault) → fault ≡ Some one → cause_of one ≡ Words → told ≡ Err one
  pub untouched : IfErr told (λ _. now.folder ≡ before.folder)

abbrev pub WordsRefused : List Word → Outside → Option Fault → Outside → Type 0
WordsRefused words before fault now = IsWordsRefused (asked words) before fault now

-- nothing outside failed in the call
pub record NothingFailed (before now : Outside) : Type 0 where
  pub read : ¬ Rose before.folder.read_faults now.folder.read_faults
  pub write : ¬ Rose before.folder.write_faults now.folder.write_faults
  pub out : ¬ Rose before.out.faults now.out.faults

-- where nothing outside failed, the ending is that of the run, unless memory ran out
abbrev pub Complete : List Word → Outside → Option Fault → Outside → Type 0
Complete words before fault now = NothingFailed before now → fault ≢ Some NoMemory → OfItsRun words before (λ run. EndsAs run fault before now)

-- ---- the sinks

-- the report of a run that is done
abbrev pub ReportIs : (List ℕ → Type 0) → Part Trace → Type 0
ReportIs Says run = IfOk run.answer (λ trace. Says (report_text trace.entries))

-- some text was written whole, or a part of it
pub record Reported (words : List Word) (before now : Outside) : Type 0 where
  pub text : List ℕ
  pub told : OfItsRun words before (ReportIs (λ report. text ≡ report))
  pub written : Appends text before.out now.out

pub record ReportedPart (words : List Word) (before now : Outside) : Type 0 where
  pub text : List ℕ
  pub told : OfItsRun words before (ReportIs (λ report. text ≡ report))
  pub written : WritesPart text before.out now.out

abbrev pub OutBy : Cause → List Word → Outside → Outside → Type 0
OutBy NotReported words before now = ReportedPart words before now
OutBy other words before now = now.out ≡ before.out

abbrev pub OutEnds : List Word → Outside → Option Fault → Outside → Type 0
OutEnds words before None now = Reported words before now
OutEnds words before (Some fault) now = OutBy (cause_of fault) words before now

abbrev pub ErrEnds : Outside → Option Fault → Outside → Type 0
ErrEnds before None now = now.err ≡ before.err
ErrEnds before (Some fault) now = Appends (fault_text fault) before.err now.err ⊎ WritesPart (fault_text fault) before.err now.err
