use Rattle.std.proofs.Common.{length, nat_lt}
use Rattle.expr_pool.proofs.Lists.{all_at, lt_from}
use Rattle.expr_pool.specs.declared.cell.Node.{Node}
use Rattle.indexmap.specs.IndexMap.{get}
use Rattle.el_part.proofs.ClassLemmas.{class_done, class_next}
use Rattle.el_part.specs.inner.ClassMap.{same_iri}
use Rattle.el_part.proofs.classes.class_map.Goals as goal

pub node-requires : goal.node-requires
node-requires c = lt_from c.nth-node.result.place (length c.args.pool.now) (all_at (λ (n : Node). nat_lt n.place (length c.args.pool.now)) c.args.nodes.now c.loop-at.at c.nth-node.result c.requires c.nth-node.ensures)

pub loop-at-preserved : goal.loop-at-preserved
loop-at-preserved c =
    class_next c.args.pool.now c.args.nodes.now c.loop-at.at c.nth-node.result c.node.result.now (get same_iri c.loop-at.classes) (get same_iri c.add_class.new.classes) c.len-count.ensures.different c.nth-node.ensures c.node.ensures.cell c.loop-at.invariant c.in_ok-add_class.ensures

pub returns : goal.returns
returns c = class_done c.args.pool.now c.args.nodes.now c.loop-at.at (get same_iri c.loop-at.classes) c.loop-at-test.false c.loop-at.invariant
