use Rattle.owl_axioms.proofs.TellingSides.{side_told}
use Rattle.owl_axioms.proofs.laws.text_tells_side.Goals as goal

pub returns : goal.returns
returns c = side_told c.args.one.now c.args.other.now
