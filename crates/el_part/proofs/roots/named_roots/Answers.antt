use Rattle.std.proofs.Common.{ap, ◌∙◌}
use Rattle.expr_pool.proofs.Lists.{grew_more}
use Rattle.expr_pool.specs.Pool.{stand}
use Rattle.owl_ontology.specs.Ontology.{axioms_of}
use Rattle.el_part.proofs.RootLemmas.{named_next}
use Rattle.el_part.specs.inner.Made.{items_of}
use Rattle.el_part.proofs.roots.named_roots.Goals as goal

pub loop-at-preserved : goal.loop-at-preserved
loop-at-preserved c =
    let all = axioms_of c.args.ontology.now.entries in
    let new = c.declared_node.new.pool in (
      grew_more c.first_roots.new.pool c.loop-at.pool new c.loop-at.invariant.0 c.in_ok-node.ensures.kept,
      ap (stand new) c.in_ok-push_some.ensures ∙ named_next c.loop-at.pool new c.loop-at.roots.items (items_of c.in_ok-node.node) all c.loop-at.at c.get.result.now c.in_ok-node.ensures.kept c.loop-at.invariant.1 c.in_ok-node.ensures.node c.get.ensures.found,
    )
