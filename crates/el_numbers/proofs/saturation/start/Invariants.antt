use Rattle.std.proofs.Common.{◌≡◌}
use Rattle.el_numbers.specs.inner.Going.{starts}
use Rattle.el_numbers.proofs.saturation.start.Given as goal

abbrev pub invariant-loop-c : goal.invariant-loop-c
invariant-loop-c l = l.out.items ≡ starts l.c
