use Rattle.spelling_laws.proofs.Gathering as laws
use Rattle.spelling_laws.proofs.laws.gathering_keeps_spelling.Goals as goal

pub returns : goal.returns
returns c = laws.gathering_keeps_spelling
