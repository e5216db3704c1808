use Rattle.el_numbers.proofs.OrderLemmas.{above}
use Rattle.el_numbers.proofs.laws.below_is_transitive.Goals as goal

pub returns : goal.returns
returns c = above
