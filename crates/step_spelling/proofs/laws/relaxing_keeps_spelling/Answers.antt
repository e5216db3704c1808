use Rattle.step_spelling.proofs.Relaxing as laws
use Rattle.step_spelling.proofs.laws.relaxing_keeps_spelling.Goals as goal

pub returns : goal.returns
returns c = laws.relaxing_keeps_spelling
