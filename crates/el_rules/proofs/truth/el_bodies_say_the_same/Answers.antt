use Rattle.el_rules.proofs.Sound.{same_bodies}
use Rattle.el_rules.proofs.truth.el_bodies_say_the_same.Goals as goal

pub returns : goal.returns
returns c = same_bodies
