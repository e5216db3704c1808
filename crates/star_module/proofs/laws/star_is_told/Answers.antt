use Rattle.star_module.proofs.EndTold as lemmas
use Rattle.star_module.proofs.laws.star_is_told.Goals as goal

pub returns : goal.returns
returns c = lemmas.star_is_told
