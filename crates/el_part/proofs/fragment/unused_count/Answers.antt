use Rattle.std.proofs.Common.{sym}
use Rattle.owl_ontology.specs.Ontology.{axioms_of}
use Rattle.el_part.proofs.Counting.{at_most_next, count_next}
use Rattle.el_part.proofs.fragment.unused_count.Goals as goal

pub loop-at-preserved : goal.loop-at-preserved
loop-at-preserved c = (
  count_next (axioms_of c.args.ontology.now.entries) c.loop-at.at c.loop-at.count c.counted-count.result c.get.result.now c.is_unused.result c.get.ensures.found (sym c.is_unused.ensures) c.loop-at.invariant.0 c.counted-count.ensures,
  at_most_next c.loop-at.at c.loop-at.count c.counted-count.result c.is_unused.result c.loop-at.invariant.1 c.counted-count.ensures,
)
