use Rattle.axiom_texts.proofs.Examples.{text_table}
use Rattle.axiom_texts.proofs.laws.texts_are_those.Goals as goal

pub returns : goal.returns
returns c = text_table
