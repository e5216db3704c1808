-- The steps of a chain and their outputs: what each does, and what it comes to. (Own.)
use Rattle.std.specs.Prelude.{ℕ, Bool, List, [], ◌∷◌, ◌++◌, Option, Some, None, Result, Ok, Err, length, slice_get, unwrap_or}
use Rattle.std.specs.List.{flat_map}
use Rattle.rel_io.specs.FolderState.{Files}
use Rattle.rel_io.specs.Limits as limits
use Rattle.iri_map.specs.Ontology.{name_or_temp}
use Rattle.text_sets.specs.Sorted.{sorted_by}
use Rattle.owl_axioms.specs.Names.{common}
use Rattle.owl_axioms.specs.Signature.{added, no_names, scope_of}
use Rattle.owl_axioms.specs.declared.body.Body.{Body}
use Rattle.owl_axioms.specs.declared.body.Body.TheVariants as body
use Rattle.owl_ontology.specs.Ontology.{Entry as OwlEntry, OntologyState, axioms_of}
use Rattle.owl_ontology.specs.declared.origin.Origin.{Origin}
use Rattle.chain_words.specs.Word.{Name}
use Rattle.chain_words.specs.Setting.{method_word}
use Rattle.chain_words.specs.declared.command.Chain.{Chain}
use Rattle.chain_words.specs.declared.command.Format.{Format}
use Rattle.chain_words.specs.declared.command.Format.TheVariants.{Obo, Ofn}
use Rattle.chain_words.specs.declared.command.Method.{Method}
use Rattle.chain_words.specs.declared.command.Output.{Output as Wanted}
use Rattle.chain_words.specs.declared.command.Step.{Step}
use Rattle.chain_words.specs.declared.command.Step.TheVariants.{Extract, Reason, Relax, Reduce, Convert}
use Rattle.seed_list.specs.Seed.{names_of}
use Rattle.seed_list.specs.Terms.{iris_of}
use Rattle.seed_list.specs.declared.seed.Seed.{Seed}
use Rattle.extract_step.specs.Extract.{chosen, extracted}
use Rattle.extract_step.specs.Known.{unknown_count}
use Rattle.plain_reasoning.specs.Reason.{Reasoning, Reasoned, TooManyFacts, Unsatisfiable, reason_of}
use Rattle.relax_axioms.specs.Relax.{relax_of}
use Rattle.reduce_edges.specs.Reduce.{reduce_of}
use Rattle.obo_mapping.specs.TwoValues.{TwoGiven, two_values}
use Rattle.release_report.specs.declared.entry.Entry.{Entry}
use Rattle.release_report.specs.declared.entry.Entry.TheVariants as entry
use Rattle.release_report.specs.declared.fault.Fault.{Fault}
use Rattle.release_report.specs.declared.fault.Fault.TheVariants as fault
use Rattle.release_chain.specs.Counts.{counts_of}
use Rattle.release_chain.specs.Outputs.{Made, text_of}
use Rattle.release_chain.specs.Part.{Output, Part, answers, gives, puts, reads, then_do}
use Rattle.release_chain.specs.Trace.{Trace, load_part}

-- the name of the file to which an origin leads
abbrev pub file_at : List Name → Origin → Name
file_at files origin = unwrap_or (slice_get files origin.file) []

-- the seed of a term file, by the IRIs of its terms, or why it has none
abbrev pub seed_of : List (List ℕ) → Seed
seed_of read =
    let iris = sorted_by (λ (iri : List ℕ). iri) read in record { sig = added no_names (flat_map names_of iris); iris = iris }

abbrev pub seed_or : Name → Result (List (List ℕ)) ℕ → Result Seed Fault
seed_or file (Ok []) = Err (fault.EmptySeed file)
seed_or file (Ok (iri ∷ iris)) = Ok (seed_of (iri ∷ iris))
seed_or file (Err line) = Err (fault.SeedLine file line)

-- its terms are read as ids in the ontology
abbrev pub seed_in : Name → OntologyState → List ℕ → Result Seed Fault
seed_in file ontology bytes = seed_or file (iris_of (name_or_temp ontology.name) limits.seed_lines bytes)

-- extract: what is shipped with the module of the seed, which keeps what was there over the names of the seed
abbrev pub extracted_entry : Method → Seed → OntologyState → Entry
extracted_entry method seed before =
    entry.Extracted (method_word method) (counts_of (axioms_of (extracted method seed before).entries)) (unknown_count (axioms_of before.entries) seed.iris)
    (chosen method (scope_of seed.sig) (axioms_of before.entries)).1

abbrev pub extracted_trace : Method → Trace → Seed → Trace
extracted_trace method trace seed = record trace {
  ontology = extracted method seed trace.ontology;
  scope = common trace.scope (scope_of seed.sig);
  entries = trace.entries ++ extracted_entry method seed trace.ontology ∷ [];
}

abbrev pub extracted_or : Method → Trace → Result Seed Fault → Result Trace Fault
extracted_or method trace (Ok seed) = Ok (extracted_trace method trace seed)
extracted_or method trace (Err one) = Err one

abbrev pub extract_part : Files → Method → Name → Trace → Part Trace
extract_part files method terms trace = then_do (reads files terms) (λ bytes. answers (extracted_or method trace (seed_in terms trace.ontology bytes)))

-- reason: the direct edges that are missing are added, or the step is refused. Where a class is empty, its declaration tells it
abbrev pub declared_name : Body → List ℕ
declared_name (body.Declaration name) = name.iri
declared_name other = []

abbrev pub fault_of_empty : List Name → Option OwlEntry → Fault
fault_of_empty files (Some entry) = fault.Unsatisfiable (declared_name entry.axiom.body) (file_at files entry.origin) entry.origin.line
fault_of_empty files None = fault.Unsatisfiable [] [] 0

abbrev pub reasoned_trace : Trace → OntologyState → ℕ → ℕ → Trace
reasoned_trace trace after count unused = record trace { ontology = after; entries = trace.entries ++ entry.Reasoned count unused ∷ [] }

abbrev pub reasoned_by : Trace → Reasoning → Result Trace Fault
reasoned_by trace (Reasoned after count unused) = Ok (reasoned_trace trace after count unused)
reasoned_by trace (Unsatisfiable at) = Err (fault_of_empty trace.files (slice_get trace.ontology.entries at))
reasoned_by trace (TooManyFacts limit) = Err (fault.TooManyFacts limit)

abbrev pub reasoned_or : Trace → Result Trace Fault
reasoned_or trace = reasoned_by trace (reason_of trace.ontology limits.facts)

-- relax
abbrev pub relaxed_trace : Trace → Trace
relaxed_trace trace =
    let made = relax_of trace.ontology in record trace { ontology = made.0; entries = trace.entries ++ entry.Relaxed made.1 ∷ [] }

-- reduce
abbrev pub reduced_trace : Bool → Trace → Trace
reduced_trace keep trace =
    let made = reduce_of keep trace.ontology in record trace { ontology = made.0; entries = trace.entries ++ entry.Reduced made.1 ∷ [] }

-- what each step does and comes to
abbrev pub step_part : Files → Step → Trace → Part Trace
step_part files (Extract method terms) trace = extract_part files method terms trace
step_part files Reason trace = answers (reasoned_or trace)
step_part files Relax trace = gives (relaxed_trace trace)
step_part files (Reduce keep) trace = gives (reduced_trace keep trace)
step_part files Convert trace = gives trace

-- ---- the outputs

-- two values that one frame would have, each with its place
abbrev pub fault_of_two : List Name → TwoGiven → Fault
fault_of_two files two =
    fault.TwoValues two.first.iri two.first.tag two.first.text two.second.text (file_at files two.first.origin) two.first.origin.line
    (file_at files two.second.origin) two.second.origin.line

abbrev pub none_or : List Name → Option TwoGiven → Result (Unit {0}) Fault
none_or files None = Ok tt
none_or files (Some two) = Err (fault_of_two files two)

-- whether the axioms can be written so
abbrev pub checked : Wanted → Trace → Result (Unit {0}) Fault
checked file trace = by_format file.format file.check trace
  where
    by_format : Format → Bool → Trace → Result (Unit {0}) Fault
    by_format Obo check trace = none_or trace.files (two_values trace.ontology.name check trace.ontology.entries)
    by_format Ofn check trace = Ok tt

abbrev pub made_of : Wanted → Trace → Made
made_of file trace = record { merged = trace.merged; ontology = trace.ontology; scope = trace.scope; format = file.format; check = file.check }

abbrev pub output_of : Wanted → Trace → Output
output_of file trace = record { name = file.name; made = made_of file trace }

-- the report says how many bytes a file has
abbrev pub with_written : Wanted → Trace → Trace
with_written file trace = record trace { entries = trace.entries ++ entry.Written file.name (length (text_of file.format trace.ontology)) ∷ [] }

abbrev pub write_part : Wanted → Trace → Part Trace
write_part file trace = then_do (answers (checked file trace)) (λ _. then_do (puts (output_of file trace)) (λ _. gives (with_written file trace)))

abbrev pub output_part : Option Wanted → Trace → Part Trace
output_part None trace = gives trace
output_part (Some file) trace = write_part file trace

-- ---- the chain

-- a step, and then its output
abbrev pub turn_part : Files → Step × Option Wanted → Trace → Part Trace
turn_part files turn trace = then_do (step_part files turn.0 trace) (output_part turn.1)

abbrev pub steps_part : Files → List (Step × Option Wanted) → Trace → Part Trace
steps_part files [] trace = gives trace
steps_part files (turn ∷ turns) trace = then_do (turn_part files turn trace) (steps_part files turns)

abbrev pub chain_part : Files → Option OntologyState → Chain → Part Trace
chain_part files merged chain = then_do (then_do (load_part files merged chain) (output_part chain.first)) (steps_part files chain.steps)
