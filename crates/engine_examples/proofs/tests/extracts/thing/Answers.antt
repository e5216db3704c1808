use Rattle.std.proofs.Common.{◌∙◌}
use Rattle.engine_examples.proofs.Proper.{clean_thing}
use Rattle.engine_examples.proofs.tests.extracts.thing.Goals as goal

pub returns : goal.returns
returns c = clean_thing c.in_ok-iri.iri (c.in_ok-iri.ensures ∙ c.owl_thing.ensures)
