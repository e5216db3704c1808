use Rattle.std.proofs.Common.{false}
use Rattle.owl_ontology.specs.Ontology.{axioms_of}
use Rattle.obo_mapping.specs.Documents.{is_namespace}
use Rattle.obo_to_owl.proofs.SpaceLemmas.{named_next}
use Rattle.obo_to_owl.proofs.RowLemmas.{got, within-some}
use Rattle.obo_writer.specs.inner.Missing.{has_name}
use Rattle.obo_writer.proofs.missing.spaced_names.Goals as goal

pub loop-at-preserved : goal.loop-at-preserved
loop-at-preserved c = λ x.
    let axioms = axioms_of c.args.ontology.now.entries in
    let found = c.get.ensures.found in
    named_next is_namespace axioms c.loop-at.at c.get.result.now x false (has_name c.loop-at.names x) (has_name c.space_name.new.names x) (within-some axioms c.loop-at.at c.get.result.now found) (got axioms c.loop-at.at c.get.result.now found) (c.loop-at.invariant x) (c.in_ok-space_name.ensures x)
