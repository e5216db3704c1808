use Rattle.relax_axioms.proofs.Entailed as lemmas
use Rattle.relax_axioms.proofs.laws.missing_is_entailed.Goals as goal

pub returns : goal.returns
returns c = lemmas.missing_is_entailed
