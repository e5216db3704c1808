use Rattle.obo_frames.proofs.AnswerLemmas.{is_exact}
use Rattle.obo_frames.proofs.laws.file_is_told.Goals as goal

pub returns : goal.returns
returns c = is_exact c.args.line_limit c.args.bytes.now
