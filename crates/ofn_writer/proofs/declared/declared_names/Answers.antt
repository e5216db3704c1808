use Rattle.std.proofs.Common.{◌||◌, ap, sym, ◌∙◌}
use Rattle.owl_ontology.specs.Ontology.{axioms_of}
use Rattle.ofn_writer.specs.Kinds.{declares}
use Rattle.ofn_writer.proofs.ListLemmas.{any_next}
use Rattle.ofn_writer.proofs.declared.declared_names.Goals as goal

pub loop-at-preserved : goal.loop-at-preserved
loop-at-preserved c k iri =
    c.in_ok-push_declared.ensures k iri
    ∙ ap (λ t. t || declares c.get.result.now.body k iri) (c.loop-at.invariant k iri)
    ∙ sym (any_next (λ a. declares a.body k iri) (axioms_of c.args.ontology.now.entries) c.loop-at.at c.get.result.now c.get.ensures.found)
