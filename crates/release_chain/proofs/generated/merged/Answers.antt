use Rattle.std.proofs.Common.{Some, [], ◌∷◌, refl, ◌∙◌}
use Rattle.owl_axioms.specs.Names.{all_names}
use Rattle.owl_ontology.specs.Ontology.{axioms_of}
use Rattle.owl_sem.proofs.Keeps.{keeping_is_reflexive}
use Rattle.release_report.specs.declared.entry.Entry.TheVariants as entry
use Rattle.release_chain.specs.Counts.{counts_of}
use Rattle.release_chain.specs.Generated.{begun_trace}
use Rattle.release_chain.proofs.generated.merged.Goals as goal

pub returns-clause-ends : goal.returns-clause-ends
returns-clause-ends c =
    let merged = c.in_ok-ontology.ontology in
    record {
      merged = Some merged;
      order = c.in_ok-ontology.ensures.merged;
      answers = record {
        state = begun_trace c.args.size merged c.args.source;
        answered = refl;
        seen = record {
          ontology = refl;
          files = c.in_ok-files.ensures;
          entries = c.in_ok-entries.ensures.made
              ∙ (λ i. entry.Generated c.args.size (c.in_ok-ontology.ensures.note i).frames (c.requires.bytes i) ∷ entry.Merged (counts_of (axioms_of merged.entries)) ∷ []);
          keeps = keeping_is_reflexive (axioms_of merged.entries) all_names;
        };
      };
    }
