use Rattle.owl_ontology.proofs.Sameness.{sameness}
use Rattle.owl_ontology.proofs.laws.sameness_is_equivalence.Goals as goal

pub returns : goal.returns
returns c = sameness c.args.one.now c.args.two.now c.args.three.now
