-- Why a run ends before its end: the cause of each fault, and the status of each cause. It is the one table of all
-- faults: what a fault says of the files and of the counts of the outside goes by its cause. (Own.)
use Rattle.std.specs.Prelude.{ℕ, List}
use Rattle.chain_words.specs.declared.fault.WordFault.{WordFault}
use Rattle.chain_words.specs.declared.fault.WordFault.TheVariants as words
use Rattle.release_report.specs.declared.fault.Fault.{Fault}
use Rattle.release_report.specs.declared.fault.Fault.TheVariants.{BadWord, MissingInput, MissingImport, TooManyFiles, TooManyBytes, NotUtf8, LineTooLong, Syntax, NoId, ShortGroup, CatalogLine, SeedLine, EmptySeed, TooManyFacts, Unsatisfiable, TwoValues, ReadFault, WriteFault, SinkFault, NoMemory}

-- why a run ends before its end
pub data Cause : Type 0 where
  -- the arguments ask for nothing
  Words : Cause
  -- a file or a step is refused
  Refused : Cause
  -- a file is not there
  Absent : Cause
  -- the file of this name could not be opened or read
  NotRead : List ℕ → Cause
  -- the file of this name could not be written
  NotWritten : List ℕ → Cause
  -- the report could not be written
  NotReported : Cause
  -- memory ran out
  RanOut : Cause

-- the cause of each fault
abbrev pub cause_of : Fault → Cause
cause_of (BadWord index kind) = Words
cause_of (MissingInput name) = Absent
cause_of (MissingImport file line value) = Absent
cause_of (TooManyFiles limit) = Refused
cause_of (TooManyBytes name limit) = Refused
cause_of (NotUtf8 file line) = Refused
cause_of (LineTooLong file line) = Refused
cause_of (Syntax file line kind) = Refused
cause_of (NoId file line) = Refused
cause_of (ShortGroup file line) = Refused
cause_of (CatalogLine file line) = Refused
cause_of (SeedLine file line) = Refused
cause_of (EmptySeed file) = Refused
cause_of (TooManyFacts limit) = Refused
cause_of (Unsatisfiable class file line) = Refused
cause_of (TwoValues iri tag first second first_file first_line second_file second_line) = Refused
cause_of (ReadFault name) = NotRead name
cause_of (WriteFault name) = NotWritten name
cause_of SinkFault = NotReported
cause_of NoMemory = RanOut

-- 1 for what is refused and for a file that is not there, 2 for refused arguments, 3 where reading or writing failed, 4
-- where memory ran out
abbrev pub status_by : Cause → ℕ
status_by Words = 2
status_by Refused = 1
status_by Absent = 1
status_by (NotRead name) = 3
status_by (NotWritten name) = 3
status_by NotReported = 3
status_by RanOut = 4

-- the status of a fault is that of its cause
abbrev pub status_of : Fault → ℕ
status_of fault = status_by (cause_of fault)

-- what the reading of the arguments answers, as a fault of the run
abbrev pub fault_of_words : WordFault → Fault
fault_of_words (words.BadWord index kind) = BadWord index kind
fault_of_words words.NoMemory = NoMemory
