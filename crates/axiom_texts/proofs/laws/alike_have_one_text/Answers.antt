use Rattle.axiom_texts.proofs.Notes.{alike_one_text}
use Rattle.axiom_texts.proofs.laws.alike_have_one_text.Goals as goal

pub returns : goal.returns
returns c = alike_one_text c.args.one.now c.args.other.now
