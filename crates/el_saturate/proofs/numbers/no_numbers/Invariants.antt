use Rattle.std.proofs.Common.{◌≡◌, replicate}
use Rattle.el_saturate.specs.inner.Numbers.{none}
use Rattle.el_saturate.proofs.numbers.no_numbers.Given as goal

abbrev pub invariant-loop-made : goal.invariant-loop-made
invariant-loop-made l = l.numbers.items ≡ replicate l._made none
