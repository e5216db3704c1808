use Rattle.std.proofs.Common.{[], ◌∷◌, ◌++◌, ap, map, refl, ◌∙◌}
use Rattle.import_merge.specs.declared.merged.FileNote.{FileNote}
use Rattle.release_report.specs.declared.entry.Entry.TheVariants as entry
use Rattle.owl_axioms.specs.Names.{all_names}
use Rattle.owl_ontology.specs.Ontology.{axioms_of}
use Rattle.owl_sem.proofs.Keeps.{keeping_is_reflexive}
use Rattle.release_chain.specs.Trace.{merged_trace}
use Rattle.release_chain.proofs.inputs.merged_work.Goals as goal

pub returns-clause-answer : goal.returns-clause-answer
returns-clause-answer c = record {
  state = merged_trace c.args.merged.files c.args.merged.ontology;
  answered = refl;
  seen = record { ontology = refl; files = c.in_ok-names.ensures ∙ ap (map (λ (note : FileNote). note.name)) c.as_slice.ensures; entries = c.in_ok-entries-2.ensures.made ∙ (λ i. c.in_ok-entries.ensures i ++ entry.Merged (c.counts_of.ensures i) ∷ []); keeps = keeping_is_reflexive (axioms_of c.args.merged.ontology.entries) all_names };
}
