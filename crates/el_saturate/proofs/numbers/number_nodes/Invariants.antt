use Rattle.std.proofs.Common.{take}
use Rattle.el_saturate.specs.inner.Numbers.{AreNumbers}
use Rattle.el_saturate.proofs.numbers.number_nodes.Given as goal

abbrev pub invariant-loop-at : goal.invariant-loop-at
invariant-loop-at l = AreNumbers (take l.at l.part.occurring) l.count l.numbers.items
