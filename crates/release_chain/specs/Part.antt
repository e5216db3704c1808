-- A part of a run: what it does to the folder, in order, and what it answers. Runs are put together of parts. (Own.)
use Rattle.std.specs.Prelude.{ℕ, List, [], ◌∷◌, ◌++◌, Option, Some, None, Result, Ok, Err, length, nat_le, if◌then◌else◌}
use Rattle.std.specs.FinMap.{get}
use Rattle.rel_io.specs.FolderState.{Files}
use Rattle.rel_io.specs.Limits as limits
use Rattle.chain_words.specs.Word.{Name}
use Rattle.release_report.specs.declared.fault.Fault.{Fault}
use Rattle.release_report.specs.declared.fault.Fault.TheVariants.{MissingInput, TooManyBytes}
use Rattle.release_chain.specs.Outputs.{Made}

-- a file that is written
pub record Output : Type 0 where
  pub name : Name
  pub made : Made

-- what a run does to the folder
pub data Act : Type 0 where
  -- it opens the file of this name, and reads it
  Opens : Name → Act
  -- it writes this output
  Puts : Output → Act

-- what is done, in its order, and what is answered then
pub record Part (A : Type 0) : Type 0 where
  pub acts : List Act
  pub answer : Result A Fault

-- nothing is done
abbrev pub answers : {A : Type 0} → Result A Fault → Part A
answers answer = record { acts = []; answer = answer }

abbrev pub gives : {A : Type 0} → A → Part A
gives value = answers (Ok value)

-- a file is read whole, or refused
abbrev pub bytes_or : Name → Option (List ℕ) → Result (List ℕ) Fault
bytes_or name None = Err (MissingInput name)
bytes_or name (Some bytes) = if nat_le (length bytes) limits.bytes then Ok bytes else Err (TooManyBytes name limits.bytes)

abbrev pub reads : Files → Name → Part (List ℕ)
reads files name = record { acts = Opens name ∷ []; answer = bytes_or name (get files name) }

-- an output is written
abbrev pub puts : Output → Part (Unit {0})
puts output = record { acts = Puts output ∷ []; answer = Ok tt }

-- one part, and then what comes of its answer; a refusal ends it
abbrev pub then_by : {A B : Type 0} → List Act → Result A Fault → (A → Part B) → Part B
then_by acts (Err fault) next = record { acts = acts; answer = Err fault }
then_by acts (Ok value) next = record { acts = acts ++ (next value).acts; answer = (next value).answer }

abbrev pub then_do : {A B : Type 0} → Part A → (A → Part B) → Part B
then_do part next = then_by part.acts part.answer next
