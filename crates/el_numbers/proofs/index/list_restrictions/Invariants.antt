use Rattle.std.proofs.Common.{◌≡◌}
use Rattle.el_numbers.specs.inner.Indexes.{restrictions}
use Rattle.el_numbers.proofs.index.list_restrictions.Given as goal

abbrev pub invariant-loop-at : goal.invariant-loop-at
invariant-loop-at l = l.made.items ≡ restrictions l.shapes l.at
