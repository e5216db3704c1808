use Rattle.std.proofs.Common.{◌≡◌, map, take}
use Rattle.el_saturate.specs.inner.Numbers.{number_of}
use Rattle.el_saturate.proofs.numbers.numbers_of.Given as goal

abbrev pub invariant-loop-node : goal.invariant-loop-node
invariant-loop-node l = l.made ≡ map (number_of l.numbers) (take l.node-index l.nodes)
