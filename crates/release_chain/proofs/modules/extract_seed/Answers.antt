use Rattle.std.proofs.Common.{[], ◌∷◌, ◌++◌, ap, refl, subst, ◌∙◌}
use Rattle.owl_axioms.specs.Signature.{scope_of}
use Rattle.owl_ontology.specs.Ontology.{OntologyState, axioms_of}
use Rattle.owl_sem.specs.Models.{Keeps}
use Rattle.release_report.specs.declared.entry.Entry.TheVariants as entry
use Rattle.release_chain.specs.Counts.{counts_of}
use Rattle.release_chain.specs.Steps.{extracted_trace}
use Rattle.release_chain.proofs.StepLaws.{extracted_is_at}
use Rattle.release_chain.proofs.modules.extract_seed.Goals as goal

pub returns-clause-answer : goal.returns-clause-answer
returns-clause-answer c trace at =
    let said = c.in_ok-said.ensures in
    let left = said.extracted in
    record {
      state = extracted_trace c.args.method trace c.args.seed.now;
      answered = refl;
      seen = extracted_is_at c.args.work _ trace c.args.method c.args.seed.now at left refl
          (c.in_ok-entries.ensures.made
          ∙ (λ i. c.args.work.entries ++ entry.Extracted (c.in_ok-word_of.ensures i) ((c.counts_of.ensures ∙ ap (λ (o : OntologyState). counts_of (axioms_of o.entries)) left) i) (said.unknown i) (said.rounds i) ∷ []))
          (subst (λ (o : OntologyState). Keeps (axioms_of c.args.work.ontology.entries) (axioms_of o.entries) (scope_of c.args.seed.now.sig)) left said.keeps);
    }
