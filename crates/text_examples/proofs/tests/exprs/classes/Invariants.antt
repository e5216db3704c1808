use Rattle.owl_axioms.specs.Made.{AreProperExprs}
use Rattle.text_examples.proofs.tests.exprs.classes.Given as goal

abbrev pub invariant-loop-sign : goal.invariant-loop-sign
invariant-loop-sign l = AreProperExprs l.exprs.items
