use Rattle.el_taxonomy.proofs.Entailed as lemmas
use Rattle.el_taxonomy.proofs.laws.below_is_entailed.Goals as goal

pub returns : goal.returns
returns c = lemmas.below_is_entailed
