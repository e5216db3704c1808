use Rattle.el_saturate.proofs.StepLemmas.{node_within, shapes_none, shapes_next}
use Rattle.el_saturate.proofs.numbered.expressions.Goals as goal

pub loop-at-init : goal.loop-at-init
loop-at-init c = shapes_none c.args.pool.now c.args.numbers.now c.args.roles.now.keys c.new-shapes.result.items c.new-operands.result.items c.new-shapes.ensures.items c.new-operands.ensures.items

pub node-cell-requires : goal.node-cell-requires
node-cell-requires c = node_within c.args.pool.now c.args.part.now c.loop-at.at c.occurs-node.result c.requires.fits c.occurs-node.ensures

pub loop-at-preserved : goal.loop-at-preserved
loop-at-preserved c =
    shapes_next c.args.pool.now c.args.part.now.occurring c.loop-at.at c.occurs-node.result c.node-cell.result.now c.args.numbers.now c.args.roles.now.keys c.loop-at.shapes.items c.push_expression.new.shapes.items c.loop-at.operands.items c.push_expression.new.operands.items
    c.occurs-node.ensures (node_within c.args.pool.now c.args.part.now c.loop-at.at c.occurs-node.result c.requires.fits c.occurs-node.ensures) c.node-cell.ensures.cell c.node-cell.ensures.before c.loop-at.invariant c.in_ok-push_expression.ensures.shapes c.in_ok-push_expression.ensures.operands
