use Rattle.owl_axioms.specs.Made.{AreProperExprs}
use Rattle.engine_examples.proofs.tests.steps.exprs.Given as goal

abbrev pub invariant-loop-sign : goal.invariant-loop-sign
invariant-loop-sign l = AreProperExprs l.exprs.items
