use Rattle.std.proofs.Common.{◌≡◌, map}
use Rattle.owl_axioms.specs.Text.{expr_text}
use Rattle.owl_axioms.specs.inner.Sorting.{worded}
use Rattle.owl_axioms.proofs.make.worded_exprs.Given as goal

abbrev pub invariant-loop-value : goal.invariant-loop-value
invariant-loop-value l = l.list.items ≡ map (worded expr_text) l.yielded
