use Rattle.axiom_texts.proofs.Notes.{axiom_told_by_kind}
use Rattle.axiom_texts.proofs.laws.text_and_kind_tell_axiom.Goals as goal

pub returns : goal.returns
returns c = axiom_told_by_kind c.args.one.now c.args.other.now
