use Rattle.std.proofs.Common.{◌≡◌}
use Rattle.el_numbers.specs.inner.Indexes.{intersections}
use Rattle.el_numbers.proofs.index.list_operands.Given as goal

abbrev pub invariant-loop-at : goal.invariant-loop-at
invariant-loop-at l = l.made.items ≡ intersections l.operands l.at
