use Rattle.std.proofs.Common.{◌≡◌}
use Rattle.owl_axioms.specs.inner.Sorting.{values_of}
use Rattle.owl_axioms.proofs.sorting.values.Given as goal

abbrev pub invariant-loop-one : goal.invariant-loop-one
invariant-loop-one g l = l.values.items ≡ values_of l.yielded
