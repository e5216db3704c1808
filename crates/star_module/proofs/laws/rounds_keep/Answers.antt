use Rattle.star_module.proofs.Rounds as lemmas
use Rattle.star_module.proofs.laws.rounds_keep.Goals as goal

pub returns : goal.returns
returns c = lemmas.rounds_keep
