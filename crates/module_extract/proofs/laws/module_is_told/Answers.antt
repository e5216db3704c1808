use Rattle.module_extract.proofs.Told as lemmas
use Rattle.module_extract.proofs.laws.module_is_told.Goals as goal

pub returns : goal.returns
returns c = lemmas.module_is_told
