use Rattle.std.proofs.Common.{◌≡◌, map, take}
use Rattle.el_numbers.specs.inner.Indexes.{by_second}
use Rattle.el_numbers.proofs.index.second_first.Given as goal

abbrev pub invariant-loop-first : goal.invariant-loop-first
invariant-loop-first l = l.made.items ≡ map by_second (take l.first-index l.chains)
