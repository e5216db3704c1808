use Rattle.std.proofs.Common.{map, take}
use Rattle.expr_pool.specs.Pool.{tree_at}
use Rattle.el_saturate.specs.inner.Numbers.{AreShapes}
use Rattle.el_saturate.proofs.numbered.expressions.Given as goal

abbrev pub invariant-loop-at : goal.invariant-loop-at
invariant-loop-at l = AreShapes l.pool (take l.at (map (tree_at l.pool) l.part.occurring)) l.numbers l.roles.keys l.shapes.items l.operands.items
