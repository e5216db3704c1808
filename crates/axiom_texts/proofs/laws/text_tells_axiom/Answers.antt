use Rattle.axiom_texts.proofs.Notes.{axiom_told}
use Rattle.axiom_texts.proofs.laws.text_tells_axiom.Goals as goal

pub returns : goal.returns
returns c = axiom_told c.args.one.now c.args.other.now
