use Rattle.module_extract.proofs.Extending as lemmas
use Rattle.module_extract.proofs.laws.closed_extends.Goals as goal

pub returns : goal.returns
returns c = lemmas.closed_extends
