use Rattle.module_extract.proofs.Extending as lemmas
use Rattle.module_extract.proofs.laws.closed_keeps.Goals as goal

pub returns : goal.returns
returns c = lemmas.closed_keeps
