use Rattle.spelling_laws.proofs.Inclusions as laws
use Rattle.spelling_laws.proofs.laws.inclusions_keep_spelling.Goals as goal

pub returns : goal.returns
returns c = laws.inclusions_keep_spelling
