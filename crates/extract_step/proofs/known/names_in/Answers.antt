use Rattle.std.proofs.Common.{◌||◌, ap, sym, ◌∙◌}
use Rattle.extract_step.specs.Known.{has_iri, names_iri}
use Rattle.owl_axioms.specs.Signature.{scope_of}
use Rattle.owl_ontology.specs.Ontology.{axioms_of}
use Rattle.extract_step.proofs.Knowing.{any_next}
use Rattle.extract_step.proofs.known.names_in.Goals as goal

pub loop-at-init : goal.loop-at-init
loop-at-init c iri = ap (λ s. has_iri (scope_of s) iri) c.in_ok-names.ensures

pub loop-at-preserved : goal.loop-at-preserved
loop-at-preserved c iri =
    c.in_ok-add_known.ensures iri
    ∙ ap (λ t. t || names_iri iri c.get.result.now.body) (c.loop-at.invariant iri)
    ∙ sym (any_next (λ a. names_iri iri a.body) (axioms_of c.args.ontology.now.entries) c.loop-at.at c.get.result.now c.get.ensures.found)
