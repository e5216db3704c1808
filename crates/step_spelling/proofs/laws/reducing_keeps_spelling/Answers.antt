use Rattle.step_spelling.proofs.Reducing as laws
use Rattle.step_spelling.proofs.laws.reducing_keeps_spelling.Goals as goal

pub returns : goal.returns
returns c = laws.reducing_keeps_spelling
