use Rattle.step_spelling.proofs.Extracting as laws
use Rattle.step_spelling.proofs.laws.extracting_keeps_spelling.Goals as goal

pub returns : goal.returns
returns c = laws.extracting_keeps_spelling
