use Rattle.std.proofs.Common.{◌≡◌, ◌++◌, take}
use Rattle.el_numbers.specs.inner.Conclude.{role_links}
use Rattle.el_numbers.proofs.conclude.push_role_links.Given as goal

abbrev pub invariant-loop-s : goal.invariant-loop-s
invariant-loop-s l = l.out.items ≡ l.initial.out.items ++ role_links l.c l.d (take l.s-index l.roles)
