use Rattle.std.proofs.Common.{None}
use Rattle.std.specs.List.{filter_map}
use Rattle.owl_ontology.specs.Ontology.{axioms_of}
use Rattle.obo_frames.specs.Naming.{least_text}
use Rattle.obo_mapping.specs.Documents.{default_in}
use Rattle.obo_to_owl.proofs.SpaceLemmas.{least_next}
use Rattle.obo_to_owl.proofs.RowLemmas.{got, within-some}
use Rattle.obo_writer.proofs.missing.least_default.Goals as goal

pub loop-at-preserved : goal.loop-at-preserved
loop-at-preserved c =
    let axioms = axioms_of c.args.ontology.now.entries in
    let found = c.get.ensures.found in
    least_next default_in axioms c.loop-at.at c.get.result.now c.loop-at.least c.in_ok-least.least (least_text None (filter_map default_in axioms)) (within-some axioms c.loop-at.at c.get.result.now found) (got axioms c.loop-at.at c.get.result.now found) c.loop-at.invariant c.in_ok-least.ensures
