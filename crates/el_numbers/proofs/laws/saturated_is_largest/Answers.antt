use Rattle.el_numbers.proofs.CountLemmas.{largest}
use Rattle.el_numbers.proofs.laws.saturated_is_largest.Goals as goal

pub returns : goal.returns
returns c = largest
