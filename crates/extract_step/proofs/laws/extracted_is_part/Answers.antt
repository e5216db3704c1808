use Rattle.extract_step.proofs.Keeping as lemmas
use Rattle.extract_step.proofs.laws.extracted_is_part.Goals as goal

pub returns : goal.returns
returns c = lemmas.extracted_is_part c.args.method c.args.seed.now c.args.ontology.now
