-- What the making of a text answers. No public contract speaks of it.
use Rattle.std.specs.Prelude.{◌≡◌, ◌⊎◌, ℕ, Bool, List, None, Some, Result, Ok, Err}
use Rattle.owl_ontology.specs.Ontology.{OntologyState}
use Rattle.owl_ontology.specs.declared.origin.Origin.{Origin}
use Rattle.obo_mapping.specs.TwoValues.{TwoGiven, two_values}
use Rattle.owl_to_obo.specs.declared.answer.BackFault.{BackFault}
use Rattle.owl_to_obo.specs.declared.answer.BackFault.TheVariants as of_back
use Rattle.obo_writer.specs.Text.{ReadsBack, obo_text}
use Rattle.chain_words.specs.Word.{Name}
use Rattle.chain_words.specs.declared.command.Output.{Output as Wanted}
use Rattle.release_report.specs.declared.fault.Fault.{Fault}
use Rattle.release_report.specs.declared.fault.Fault.TheVariants as fault
use Rattle.release_chain.specs.Outputs.{ReadsAgain, text_of}
use Rattle.release_chain.specs.Trace.{Trace}
use Rattle.release_chain.specs.Steps.{checked, fault_of_two, file_at}
use Rattle.release_chain.specs.declared.work.Work.{Work}

-- the names of the files to which two origins lead, or memory ran out
abbrev pub BlamesFiles : List Name → Origin → Origin → Result (Name × Name) Fault → Type 0
BlamesFiles files first second (Ok names) = (names.0 ≡ file_at files first) × (names.1 ≡ file_at files second)
BlamesFiles files first second (Err one) = one ≡ fault.NoMemory

-- the fault of two values names their files, or memory ran out
abbrev pub IsBackFault : List Name → BackFault → Fault → Type 0
IsBackFault files of_back.NoMemory one = one ≡ fault.NoMemory
IsBackFault files (of_back.TwoValues iri tag first second first_at second_at) one =
    (one ≡ fault.NoMemory) ⊎ (one ≡ fault.TwoValues iri tag first second (file_at files first_at) first_at.line (file_at files second_at) second_at.line)

-- the two values that are told of these axioms
pub record BlamesTwo (files : List Name) (ontology : OntologyState) (check : Bool) (one : Fault) : Type 0 where
  pub two : TwoGiven
  pub least : two_values ontology.name check ontology.entries ≡ Some two
  pub same : one ≡ fault_of_two files two

-- an OBO text, and that no frame would have two values
pub record IsOboText (ontology : OntologyState) (check : Bool) (bytes : List ℕ) : Type 0 where
  pub none : two_values ontology.name check ontology.entries ≡ None
  pub text : bytes ≡ obo_text ontology
  pub reads_back : ReadsBack ontology

abbrev pub TextsOf : List Name → OntologyState → Bool → Result (List ℕ) Fault → Type 0
TextsOf files ontology check (Ok bytes) = IsOboText ontology check bytes
TextsOf files ontology check (Err one) = (one ≡ fault.NoMemory) ⊎ BlamesTwo files ontology check one

-- a text for a file
pub record IsTextFor (file : Wanted) (work : Work) (bytes : List ℕ) : Type 0 where
  pub told : (trace : Trace) → trace.ontology ≡ work.ontology → checked file trace ≡ Ok tt
  pub text : bytes ≡ text_of file.format work.ontology
  pub reads_again : ReadsAgain file.format work.ontology

-- why there is none: memory ran out, or the axioms cannot be written so
abbrev pub NoTextFor : Wanted → Work → Fault → Type 0
NoTextFor file work one = (one ≡ fault.NoMemory) ⊎ ((trace : Trace) → trace.ontology ≡ work.ontology → trace.files ≡ work.files → checked file trace ≡ Err one)

abbrev pub TextAnswers : Wanted → Work → Result (List ℕ) Fault → Type 0
TextAnswers file work (Ok bytes) = IsTextFor file work bytes
TextAnswers file work (Err one) = NoTextFor file work one
