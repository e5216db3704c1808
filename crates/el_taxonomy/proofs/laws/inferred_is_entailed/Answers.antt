use Rattle.el_taxonomy.proofs.Entailed as lemmas
use Rattle.el_taxonomy.proofs.laws.inferred_is_entailed.Goals as goal

pub returns : goal.returns
returns c = lemmas.inferred_is_entailed
