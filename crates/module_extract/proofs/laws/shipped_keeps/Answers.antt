use Rattle.module_extract.proofs.Shipping as lemmas
use Rattle.module_extract.proofs.laws.shipped_keeps.Goals as goal

pub returns : goal.returns
returns c = lemmas.shipped_keeps
