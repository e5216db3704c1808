use Rattle.std.proofs.Common.{◌≡◌, ◌++◌, map, take}
use Rattle.el_numbers.specs.inner.Indexes.{swapped}
use Rattle.el_numbers.proofs.index.both_ways.Given as goal

abbrev pub invariant-loop-one : goal.invariant-loop-one
invariant-loop-one l = l.made.items ≡ l.pairs ++ map swapped (take l.one-index l.pairs)
