use Rattle.step_spelling.proofs.Reasoning as laws
use Rattle.step_spelling.proofs.laws.reasoning_keeps_spelling.Goals as goal

pub returns : goal.returns
returns c = laws.reasoning_keeps_spelling
