use Rattle.el_numbers.proofs.CountLemmas.{ordered}
use Rattle.el_numbers.proofs.laws.saturated_rows_are_ordered.Goals as goal

pub returns : goal.returns
returns c = ordered
