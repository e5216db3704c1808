use Rattle.std.proofs.Common.{◌≡◌, map}
use Rattle.owl_axioms.specs.Text.{side_text}
use Rattle.owl_axioms.specs.inner.Sorting.{worded}
use Rattle.owl_axioms.proofs.make_axiom.worded_sides.Given as goal

abbrev pub invariant-loop-value : goal.invariant-loop-value
invariant-loop-value l = l.list.items ≡ map (worded side_text) l.yielded
