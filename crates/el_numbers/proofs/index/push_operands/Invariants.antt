use Rattle.std.proofs.Common.{◌≡◌, ◌++◌, take}
use Rattle.el_numbers.specs.inner.Indexes.{intersections_at}
use Rattle.el_numbers.proofs.index.push_operands.Given as goal

abbrev pub invariant-loop-operand : goal.invariant-loop-operand
invariant-loop-operand l = l.made.items ≡ l.initial.made.items ++ intersections_at l.at (take l.operand-index l.operands)
