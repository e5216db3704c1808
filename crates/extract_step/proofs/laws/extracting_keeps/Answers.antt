use Rattle.extract_step.proofs.Keeping as lemmas
use Rattle.extract_step.proofs.laws.extracting_keeps.Goals as goal

pub returns : goal.returns
returns c = lemmas.extracting_keeps c.args.method c.args.seed.now c.args.ontology.now
