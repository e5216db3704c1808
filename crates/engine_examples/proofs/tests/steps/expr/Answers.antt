use Rattle.owl_axioms.proofs.Layers.{proper_of_thing}
use Rattle.engine_examples.proofs.tests.steps.expr.Goals as goal

pub returns-in-42 : goal.returns-in-42
returns-in-42 c = proper_of_thing
