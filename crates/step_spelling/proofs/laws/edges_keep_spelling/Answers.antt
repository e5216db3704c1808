use Rattle.step_spelling.proofs.Edges as laws
use Rattle.step_spelling.proofs.laws.edges_keep_spelling.Goals as goal

pub returns : goal.returns
returns c = laws.edges_keep_spelling
