use Rattle.engine_examples.proofs.Proper.{text_proper}
use Rattle.engine_examples.proofs.tests.steps.note.Goals as goal

pub returns : goal.returns
returns c = text_proper c.in_ok-property.property c.from_vec.result c.in_ok-property.ensures
