use Rattle.std.proofs.Common.{◌≡◌, ◌++◌, take}
use Rattle.el_numbers.specs.inner.Conclude.{links}
use Rattle.el_numbers.proofs.conclude.push_links.Given as goal

abbrev pub invariant-loop-role : goal.invariant-loop-role
invariant-loop-role l = l.out.items ≡ l.initial.out.items ++ links l.c l.e l.s (take l.role-index l.pairs)
