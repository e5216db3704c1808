use Rattle.std.proofs.Common.{◌≡◌, ◌++◌, take}
use Rattle.el_numbers.specs.inner.Conclude.{belows}
use Rattle.el_numbers.proofs.conclude.push_belows.Given as goal

abbrev pub invariant-loop-role : goal.invariant-loop-role
invariant-loop-role l = l.out.items ≡ l.initial.out.items ++ belows l.b l.r (take l.role-index l.pairs)
