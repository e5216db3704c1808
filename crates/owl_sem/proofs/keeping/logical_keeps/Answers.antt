use Rattle.owl_sem.proofs.Keeps as lemmas
use Rattle.owl_sem.proofs.keeping.logical_keeps.Goals as goal

pub returns : goal.returns
returns c = lemmas.logical_keeps
