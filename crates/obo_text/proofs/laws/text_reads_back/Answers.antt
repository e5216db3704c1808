use Rattle.obo_text.proofs.LawLemmas.{reads_back_law}
use Rattle.obo_text.proofs.laws.text_reads_back.Goals as goal

pub returns : goal.returns
returns c = reads_back_law c.args.line_limit c.args.placed.now
