use Rattle.el_numbers.proofs.CountLemmas.{exclude}
use Rattle.el_numbers.proofs.laws.answers_exclude.Goals as goal

pub returns : goal.returns
returns c = exclude
