use Rattle.chain_words.proofs.Order.{options_change_places}
use Rattle.chain_words.proofs.laws.options_change_places.Goals as goal

pub returns : goal.returns
returns c = options_change_places
