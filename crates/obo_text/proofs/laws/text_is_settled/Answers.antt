use Rattle.obo_text.proofs.LawLemmas.{settles}
use Rattle.obo_text.proofs.laws.text_is_settled.Goals as goal

pub returns : goal.returns
returns c = settles c.args.line_limit c.args.placed.now
