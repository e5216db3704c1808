use Rattle.el_rules.proofs.Sound.{derived_occurs}
use Rattle.el_rules.proofs.truth.derived_occurs.Goals as goal

pub returns : goal.returns
returns c = derived_occurs
