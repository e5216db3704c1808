use Rattle.std.proofs.Common.{not}
use Rattle.owl_axioms.specs.declared.name.Name.{Name}
use Rattle.owl_ontology.specs.Ontology.{axioms_of}
use Rattle.obo_mapping.specs.Documents.{declared_in}
use Rattle.obo_to_owl.proofs.SpaceLemmas.{passing_next}
use Rattle.obo_to_owl.proofs.RowLemmas.{got, within-some}
use Rattle.obo_writer.specs.inner.Missing.{has_name}
use Rattle.obo_writer.proofs.missing.names_without.Goals as goal

pub loop-at-preserved : goal.loop-at-preserved
loop-at-preserved c =
    let axioms = axioms_of c.args.ontology.now.entries in
    let found = c.get.ensures.found in
    passing_next (λ (name : Name). not (has_name c.args.spaced.now name)) declared_in axioms c.loop-at.at c.get.result.now c.loop-at.names.items c.push_name.new.names.items (within-some axioms c.loop-at.at c.get.result.now found) (got axioms c.loop-at.at c.get.result.now found) c.loop-at.invariant c.in_ok-push_name.ensures
