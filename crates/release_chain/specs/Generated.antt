-- What `generate` comes to: the steps of a release on the generated document of a size, in memory. (Own.)
use Rattle.std.specs.Prelude.{ℕ, true, false, [], ◌∷◌, ◌++◌, codes, Option, Some, None, Result, Ok, Err, IfOk, length}
use Rattle.rel_io.specs.Limits as limits
use Rattle.obo_frames.specs.Answer.{document_of}
use Rattle.obo_gen.specs.Generated.{generated}
use Rattle.obo_gen.specs.Seed.{generated_seed}
use Rattle.obo_mapping.specs.TwoValues.{two_values}
use Rattle.owl_axioms.specs.Names.{all_names}
use Rattle.owl_ontology.specs.Ontology.{OntologyState, axioms_of}
use Rattle.chain_words.specs.Word.{Name}
use Rattle.chain_words.specs.declared.command.Format.TheVariants.{Obo}
use Rattle.chain_words.specs.declared.command.Method.TheVariants.{Star}
use Rattle.import_closure.specs.Closure.{document_answer}
use Rattle.import_closure.specs.declared.fault.LoadFault.{LoadFault}
use Rattle.import_closure.specs.declared.files.SourceFile.{SourceFile}
use Rattle.import_merge.specs.Merged.{IsMerged}
use Rattle.import_merge.specs.Notes.{file_note}
use Rattle.release_report.specs.declared.entry.Entry.TheVariants as entry
use Rattle.release_report.specs.declared.fault.Fault.{Fault}
use Rattle.release_report.specs.declared.fault.Fault.TheVariants as fault
use Rattle.release_chain.specs.Answer.{then_answer}
use Rattle.release_chain.specs.Counts.{counts_of}
use Rattle.release_chain.specs.Outputs.{text_of}
use Rattle.release_chain.specs.Trace.{Trace, fault_of_load}
use Rattle.release_chain.specs.Steps.{extracted_or, none_or, reasoned_or, reduced_trace, relaxed_trace, seed_in}

-- the name by which faults speak of the document and of the list of its terms
abbrev pub generated_name : Name
generated_name = codes "generated"

-- the document as a file of the run
abbrev pub source_or : Result SourceFile LoadFault → Result SourceFile Fault
source_or (Ok source) = Ok source
source_or (Err one) = Err (fault_of_load one)

abbrev pub generated_source : ℕ → Result SourceFile Fault
generated_source size = source_or (document_answer generated_name (document_of limits.line (generated size)))

-- its axioms, in some order, if the run comes so far
abbrev pub IsGeneratedOrder : ℕ → Option OntologyState → Type 0
IsGeneratedOrder size None = Unit {0}
IsGeneratedOrder size (Some merged) = IfOk (generated_source size) (λ source. IsMerged (source ∷ []) merged)

-- behind the document: its axioms, in this order
abbrev pub begun_trace : ℕ → OntologyState → SourceFile → Trace
begun_trace size merged source = record {
  merged = merged;
  ontology = merged;
  scope = all_names;
  files = source.name ∷ [];
  entries = entry.Generated size (file_note source).frames (length (generated size)) ∷ entry.Merged (counts_of (axioms_of merged.entries)) ∷ [];
}

-- where memory runs out before, they stand in no order
abbrev pub begun_in : ℕ → Option OntologyState → SourceFile → Result Trace Fault
begun_in size None source = Err fault.NoMemory
begun_in size (Some merged) source = Ok (begun_trace size merged source)

abbrev pub begun_or : ℕ → Option OntologyState → Result Trace Fault
begun_or size merged = then_answer (generated_source size) (begun_in size merged)

-- the text at the end goes to no file; the report says how many bytes it has
abbrev pub printed_trace : Trace → Trace
printed_trace trace = record trace { entries = trace.entries ++ entry.Printed (length (text_of Obo trace.ontology)) ∷ [] }

abbrev pub printed_or : Trace → Result Trace Fault
printed_or trace =
    then_answer (none_or trace.files (two_values trace.ontology.name true trace.ontology.entries)) (λ _. Ok (printed_trace trace))

-- relax, reduce, and the text
abbrev pub slimmed_or : Trace → Result Trace Fault
slimmed_or trace = printed_or (reduced_trace false (relaxed_trace trace))

-- reason before these
abbrev pub inferred_or : Trace → Result Trace Fault
inferred_or trace = then_answer (reasoned_or trace) slimmed_or

-- and before that the module of the stated terms
abbrev pub module_or : ℕ → Trace → Result Trace Fault
module_or size trace = extracted_or Star trace (seed_in generated_name trace.ontology (generated_seed size))

abbrev pub released_or : ℕ → Trace → Result Trace Fault
released_or size trace = then_answer (module_or size trace) inferred_or

-- what all comes to
abbrev pub generated_answer : ℕ → Option OntologyState → Result Trace Fault
generated_answer size merged = then_answer (begun_or size merged) (released_or size)
