-- How the parts of the program end, from which all clauses of the top call follow. No public contract speaks of it.
use Rattle.std.specs.Prelude.{◌≡◌, ◌⊎◌, ◌≤◌, ℕ, List, Option, Some, Result, Ok, Err, IfOk}
use Rattle.rel_io.specs.FolderState.{Files, FolderState}
use Rattle.rel_io.specs.Sink.{Appends, SinkState, WritesPart}
use Rattle.owl_ontology.specs.Ontology.{OntologyState}
use Rattle.chain_words.specs.Laws.{NoOutputIsInput, NoOutputTwice}
use Rattle.chain_words.specs.Read.{chain}
use Rattle.chain_words.specs.Word.{Word}
use Rattle.chain_words.specs.declared.command.Chain.{Chain}
use Rattle.chain_words.specs.declared.command.Command.{Command}
use Rattle.chain_words.specs.declared.command.Command.TheVariants.{Run, Generate}
use Rattle.release_report.specs.Cause.{Cause, Words, NotReported, RanOut, cause_of}
use Rattle.release_report.specs.EntryText.{report_text}
use Rattle.release_report.specs.declared.fault.Fault.{Fault}
use Rattle.release_report.specs.declared.fault.Fault.TheVariants.{NoMemory}
use Rattle.release_chain.specs.Answer.{AnswersAs}
use Rattle.release_chain.specs.Ending.{Caused, Ends}
use Rattle.release_chain.specs.Generated.{IsGeneratedOrder, generated_answer}
use Rattle.release_chain.specs.Trace.{IsOrder, load_part}
use Rattle.release_chain.specs.Steps.{chain_part}
use Rattle.release_chain.specs.inner.Work.{IsAt}
use Rattle.release_chain.specs.declared.work.Work.{Work}

-- the words ask for this
abbrev pub IsAsked : List Word → Command → Type 0
IsAsked words command = chain words ≡ Ok command

-- the words were read
abbrev pub AskFails : Cause → Result Command Fault → Fault → Type 0
AskFails Words told fault = told ≡ Err fault
AskFails RanOut told fault = Unit {0}
AskFails other told fault = ⊥

-- no output of a chain is an input or another output; a size has a bound
abbrev pub IsSound : Command → Type 0
IsSound (Run chain) = NoOutputIsInput chain × NoOutputTwice chain
IsSound (Generate size) = (10 ≤ size) × (size ≤ 1000000)

pub record IsCommand (told : Result Command Fault) (command : Command) : Type 0 where
  pub told_is : told ≡ Ok command
  pub sound : IsSound command

abbrev pub Asks : Result Command Fault → Result Command Fault → Type 0
Asks told (Ok command) = IsCommand told command
Asks told (Err fault) = AskFails (cause_of fault) told fault

-- the inputs were read, and merged in some order
pub record LoadEnds (files : Files) (chain : Chain) (result : Result Work Fault) (before now : Option Files) : Type 0 where
  pub merged : Option OntologyState
  pub order : IsOrder files chain merged
  pub ends : Ends IsAt (load_part files merged chain) result before now

-- a chain was run, and its inputs merged in some order
pub record ChainEnds (files : Files) (chain : Chain) (result : Result Work Fault) (before now : Option Files) : Type 0 where
  pub merged : Option OntologyState
  pub order : IsOrder files chain merged
  pub ends : Ends IsAt (chain_part files merged chain) result before now

-- words that ask for no chain are refused, or memory ran out
pub record IsWordFault (refusal : Fault) (before : FolderState) (result : Result Work Fault) (now : FolderState) : Type 0 where
  pub untouched : now ≡ before
  pub refused : (result ≡ Err refusal) ⊎ (result ≡ Err NoMemory)

-- a chain ended
pub record IsChainEnd (chain : Chain) (before : FolderState) (result : Result Work Fault) (now : FolderState) : Type 0 where
  pub caused : Caused result before now
  pub once : IfOk result (λ _. NoOutputTwice chain)
  pub ends : (files : Files) → before.holds ≡ Some files → ChainEnds files chain result before.holds now.holds

-- the document was generated, and its axioms stand in some order
pub record GeneratedEnds (size : ℕ) (result : Result Work Fault) : Type 0 where
  pub merged : Option OntologyState
  pub order : IsGeneratedOrder size merged
  pub answers : AnswersAs IsAt (generated_answer size merged) result

-- `generate` ended, and the folder was not touched
pub record IsGeneratedEnd (size : ℕ) (before : FolderState) (result : Result Work Fault) (now : FolderState) : Type 0 where
  pub untouched : now ≡ before
  pub ends : GeneratedEnds size result

abbrev pub CommandEnds : Command → FolderState → Result Work Fault → FolderState → Type 0
CommandEnds (Run chain) before result now = IsChainEnd chain before result now
CommandEnds (Generate size) before result now = IsGeneratedEnd size before result now

abbrev pub WordsEnd : Result Command Fault → FolderState → Result Work Fault → FolderState → Type 0
WordsEnd (Err refusal) before result now = IsWordFault refusal before result now
WordsEnd (Ok command) before result now = CommandEnds command before result now

-- the run was done, and so the report was told
pub record IsReported (told : Result Command Fault) (before now : FolderState) (Says : List ℕ → Type 0) : Type 0 where
  pub work : Work
  pub ends : WordsEnd told before (Ok work) now
  pub says : Says (report_text work.entries)

abbrev pub FinishFails : Cause → Result Command Fault → Fault → FolderState → FolderState → SinkState → SinkState → Type 0
FinishFails NotReported told fault before now out_before out_now = IsReported told before now (λ report. WritesPart report out_before out_now)
FinishFails RanOut told fault before now out_before out_now = (out_now ≡ out_before) × (WordsEnd told before (Err fault) now ⊎ IsReported told before now (λ _. Unit {0}))
FinishFails other told fault before now out_before out_now = (out_now ≡ out_before) × WordsEnd told before (Err fault) now

-- the run and its report ended
abbrev pub Finishes : Result Command Fault → FolderState → SinkState → Result (Unit {0}) Fault → FolderState → SinkState → Type 0
Finishes told before out_before (Ok done) now out_now = IsReported told before now (λ report. Appends report out_before out_now)
Finishes told before out_before (Err fault) now out_now = FinishFails (cause_of fault) told fault before now out_before out_now
