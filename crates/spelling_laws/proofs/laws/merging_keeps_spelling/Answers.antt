use Rattle.spelling_laws.proofs.Gathering as laws
use Rattle.spelling_laws.proofs.laws.merging_keeps_spelling.Goals as goal

pub returns : goal.returns
returns c = laws.merging_keeps_spelling
