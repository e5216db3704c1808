use Rattle.std.proofs.Common.{subst, sym}
use Rattle.owl_axioms.specs.Made.{IsProperExpr}
use Rattle.engine_examples.proofs.Proper.{some_proper}
use Rattle.engine_examples.proofs.tests.steps.some_of.Goals as goal

pub returns : goal.returns
returns c = some_proper c.in_ok-letter.field-0 c.in_ok-part.part c.in_ok-letter.ensures (subst IsProperExpr (sym c.in_ok-part.ensures) c.requires)
