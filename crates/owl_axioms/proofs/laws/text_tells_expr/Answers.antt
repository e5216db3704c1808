use Rattle.owl_axioms.proofs.TellingTexts.{expr_told}
use Rattle.owl_axioms.proofs.laws.text_tells_expr.Goals as goal

pub returns : goal.returns
returns c = expr_told c.args.one.now c.args.other.now
