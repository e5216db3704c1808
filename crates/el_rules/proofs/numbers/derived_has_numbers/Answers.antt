use Rattle.el_rules.proofs.Transport.{has_numbers}
use Rattle.el_rules.proofs.numbers.derived_has_numbers.Goals as goal

pub returns : goal.returns
returns c = has_numbers
