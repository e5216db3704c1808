-- What a run has come to, and what it begins with: the merged axioms of its inputs, in some order. (Own.)
use Rattle.std.specs.Prelude.{ℕ, List, [], ◌∷◌, ◌++◌, Option, Some, None, Result, Ok, Err, IfOk, map}
use Rattle.rel_io.specs.FolderState.{Files}
use Rattle.rel_io.specs.Limits as limits
use Rattle.rel_io.specs.declared.limits.Limits.{Limits}
use Rattle.owl_axioms.specs.Names.{Scope, all_names}
use Rattle.owl_ontology.specs.Ontology.{OntologyState, axioms_of}
use Rattle.chain_words.specs.Word.{Name}
use Rattle.chain_words.specs.declared.command.Chain.{Chain}
use Rattle.import_closure.specs.Closure.{reading}
use Rattle.import_closure.specs.Loading.{Loading}
use Rattle.import_closure.specs.declared.fault.LoadFault.{LoadFault}
use Rattle.import_closure.specs.declared.fault.LoadFault.TheVariants as load
use Rattle.import_closure.specs.declared.files.SourceFile.{SourceFile}
use Rattle.import_merge.specs.Merged.{IsMerged}
use Rattle.import_merge.specs.Notes.{file_note}
use Rattle.import_merge.specs.declared.merged.FileNote.{FileNote}
use Rattle.obo_to_owl.specs.declared.translated.Dropped.{Dropped}
use Rattle.release_report.specs.declared.entry.Entry.{Entry}
use Rattle.release_report.specs.declared.entry.Entry.TheVariants as entry
use Rattle.release_report.specs.declared.fault.Fault.{Fault}
use Rattle.release_report.specs.declared.fault.Fault.TheVariants as fault
use Rattle.release_chain.specs.Counts.{counts_of}
use Rattle.release_chain.specs.Part.{Opens, Part}

-- what a run has come to
pub record Trace : Type 0 where
  -- the merged axioms
  pub merged : OntologyState
  -- what the steps made of them
  pub ontology : OntologyState
  -- the names over which these keep the merged ones
  pub scope : Scope
  -- the names of the files, to which origins lead
  pub files : List Name
  -- the report so far
  pub entries : List Entry

-- ---- the inputs

-- the limits of a release
abbrev pub release_limits : Limits
release_limits = record { files = limits.files; bytes = limits.bytes; line = limits.line; seed_lines = limits.seed_lines; facts = limits.facts }

-- the inputs of a chain and what they import
abbrev pub sources_of : Files → Chain → Loading (List SourceFile)
sources_of files chain = reading files chain.inputs chain.catalog release_limits

abbrev pub fault_of_load : LoadFault → Fault
fault_of_load (load.MissingInput name) = fault.MissingInput name
fault_of_load (load.MissingImport file line value) = fault.MissingImport file line value
fault_of_load (load.TooManyFiles limit) = fault.TooManyFiles limit
fault_of_load (load.TooManyBytes name limit) = fault.TooManyBytes name limit
fault_of_load (load.CatalogLine file line) = fault.CatalogLine file line
fault_of_load (load.ReadFault name) = fault.ReadFault name
fault_of_load (load.NotUtf8 file line) = fault.NotUtf8 file line
fault_of_load (load.LineTooLong file line) = fault.LineTooLong file line
fault_of_load (load.Syntax file line kind) = fault.Syntax file line kind
fault_of_load (load.NoId file line) = fault.NoId file line
fault_of_load (load.ShortGroup file line) = fault.ShortGroup file line
fault_of_load load.NoMemory = fault.NoMemory

-- a file in the report
abbrev pub dropped_entry : Dropped → ℕ × List ℕ
dropped_entry report = (report.line, report.tag)

abbrev pub read_entry : FileNote → Entry
read_entry note = entry.Read note.name note.frames (map dropped_entry note.dropped)

-- behind the inputs: the merged axioms, in this order
abbrev pub merged_trace : List FileNote → OntologyState → Trace
merged_trace notes merged = record {
  merged = merged;
  ontology = merged;
  scope = all_names;
  files = map (λ (note : FileNote). note.name) notes;
  entries = map read_entry notes ++ entry.Merged (counts_of (axioms_of merged.entries)) ∷ [];
}

-- where memory runs out before the axioms are merged, they stand in no order
abbrev pub merged_in : Option OntologyState → List SourceFile → Result Trace Fault
merged_in None sources = Err fault.NoMemory
merged_in (Some merged) sources = Ok (merged_trace (map file_note sources) merged)

abbrev pub merged_or : Option OntologyState → Result (List SourceFile) LoadFault → Result Trace Fault
merged_or merged (Ok sources) = merged_in merged sources
merged_or merged (Err one) = Err (fault_of_load one)

abbrev pub load_part : Files → Option OntologyState → Chain → Part Trace
load_part files merged chain = record {
  acts = map (λ name. Opens name) (sources_of files chain).opened;
  answer = merged_or merged (sources_of files chain).answer;
}

-- the axioms of the inputs, in some order, if the run comes so far
abbrev pub IsOrder : Files → Chain → Option OntologyState → Type 0
IsOrder files chain None = Unit {0}
IsOrder files chain (Some merged) = IfOk (sources_of files chain).answer (λ sources. IsMerged sources merged)
