use Rattle.spelling_laws.proofs.Gathering as laws
use Rattle.spelling_laws.proofs.laws.part_keeps_spelling.Goals as goal

pub returns : goal.returns
returns c = laws.part_keeps_spelling
