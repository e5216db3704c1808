-- What a run of the program is, of its words, of the files that the folder holds, and of the order in which the merged axioms
-- stand. (Own.)
use Rattle.std.specs.Prelude.{ℕ, List, Option, Some, None, Result, Ok, Err}
use Rattle.rel_io.specs.FolderState.{Files}
use Rattle.owl_ontology.specs.Ontology.{OntologyState}
use Rattle.chain_words.specs.Word.{Word}
use Rattle.chain_words.specs.Fault.{Reading}
use Rattle.chain_words.specs.Read.{chain}
use Rattle.chain_words.specs.declared.command.Chain.{Chain}
use Rattle.chain_words.specs.declared.command.Command.{Command}
use Rattle.chain_words.specs.declared.command.Command.TheVariants.{Run, Generate}
use Rattle.release_report.specs.declared.fault.Fault.{Fault}
use Rattle.release_report.specs.declared.fault.Fault.TheVariants as fault
use Rattle.release_chain.specs.Generated.{IsGeneratedOrder, generated_answer}
use Rattle.release_chain.specs.Part.{Part, answers}
use Rattle.release_chain.specs.Trace.{Trace, IsOrder}
use Rattle.release_chain.specs.Steps.{chain_part}

-- ---- the words

-- what the words ask for, or the fault of words that ask for nothing
abbrev pub asked_by : Reading Command → Result Command Fault
asked_by (Err bad) = Err (fault.BadWord bad.index bad.kind)
asked_by (Ok command) = Ok command

abbrev pub asked : List Word → Result Command Fault
asked words = asked_by (chain words)

-- ---- the run

-- this is said of the run of a chain over these files, where the merged axioms stand in some order
pub record OfChain (files : Files) (chain : Chain) (Says : Part Trace → Type 0) : Type 0 where
  pub merged : Option OntologyState
  pub order : IsOrder files chain merged
  pub says : Says (chain_part files merged chain)

-- the same of the run of `generate`; it does nothing to the folder
abbrev pub generated_part : ℕ → Option OntologyState → Part Trace
generated_part size merged = answers (generated_answer size merged)

pub record OfGenerated (size : ℕ) (Says : Part Trace → Type 0) : Type 0 where
  pub merged : Option OntologyState
  pub order : IsGeneratedOrder size merged
  pub says : Says (generated_part size merged)

abbrev pub OfTold : Result Command Fault → Option Files → (Part Trace → Type 0) → Type 0
OfTold (Err refusal) held Says = Says (answers (Err refusal))
OfTold (Ok (Generate size)) held Says = OfGenerated size Says
OfTold (Ok (Run chain)) None Says = Unit {0}
OfTold (Ok (Run chain)) (Some files) Says = OfChain files chain Says

-- this is said of the run of the words over the files that a folder holds: of wrong words and of `generate` always, and of a
-- chain where the folder tells what it holds
abbrev pub OfRun : List Word → Option Files → (Part Trace → Type 0) → Type 0
OfRun words held Says = OfTold (asked words) held Says
