use Rattle.el_rules.proofs.Transport.{same_derived}
use Rattle.el_rules.proofs.numbers.numbers_derive_the_same.Goals as goal

pub returns : goal.returns
returns c = same_derived
