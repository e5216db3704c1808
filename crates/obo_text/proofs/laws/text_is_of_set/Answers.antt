use Rattle.obo_text.proofs.LawLemmas.{of_set_law}
use Rattle.obo_text.proofs.laws.text_is_of_set.Goals as goal

pub returns : goal.returns
returns c = of_set_law c.args.placed.now
