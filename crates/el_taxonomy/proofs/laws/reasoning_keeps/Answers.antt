use Rattle.el_taxonomy.proofs.Entailed as lemmas
use Rattle.el_taxonomy.proofs.laws.reasoning_keeps.Goals as goal

pub returns : goal.returns
returns c = lemmas.reasoning_keeps c.args.before.now c.args.after.now
