use Rattle.el_rules.proofs.Sound.{derived_true}
use Rattle.el_rules.proofs.truth.derived_is_true.Goals as goal

pub returns : goal.returns
returns c = derived_true
