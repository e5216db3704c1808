use Rattle.relax_axioms.proofs.Entailed as lemmas
use Rattle.relax_axioms.proofs.laws.relaxing_keeps.Goals as goal

pub returns : goal.returns
returns c = lemmas.relaxing_keeps c.args.before.now c.args.after.now
