use Rattle.std.proofs.Common.{◌≡◌, ◌++◌, take}
use Rattle.el_numbers.specs.inner.Conclude.{link_belows}
use Rattle.el_numbers.proofs.conclude.push_link_belows.Given as goal

abbrev pub invariant-loop-e : goal.invariant-loop-e
invariant-loop-e l = l.out.items ≡ l.initial.out.items ++ link_belows l.somes l.c l.r (take l.e-index l.below)
