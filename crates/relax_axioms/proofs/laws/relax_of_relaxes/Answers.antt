use Rattle.relax_axioms.proofs.Missing as lemmas
use Rattle.relax_axioms.proofs.laws.relax_of_relaxes.Goals as goal

pub returns : goal.returns
returns c = lemmas.relax_of_relaxes c.args.before.now
