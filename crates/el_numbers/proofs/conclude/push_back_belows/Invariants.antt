use Rattle.std.proofs.Common.{◌≡◌, ◌++◌, take}
use Rattle.el_numbers.specs.inner.Conclude.{back_belows}
use Rattle.el_numbers.proofs.conclude.push_back_belows.Given as goal

abbrev pub invariant-loop-r : goal.invariant-loop-r
invariant-loop-r l = l.out.items ≡ l.initial.out.items ++ back_belows l.somes (take l.r-index l.back)
