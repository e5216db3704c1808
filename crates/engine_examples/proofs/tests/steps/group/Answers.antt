use Rattle.owl_axioms.proofs.Layers.{proper_of_thing}
use Rattle.engine_examples.proofs.tests.steps.group.Goals as goal

pub returns-then-is_empty : goal.returns-then-is_empty
returns-then-is_empty c = proper_of_thing
