use Rattle.relax_axioms.proofs.Entailed as lemmas
use Rattle.relax_axioms.proofs.laws.definition_entails.Goals as goal

pub returns : goal.returns
returns c = lemmas.definition_entails
