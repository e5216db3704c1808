use Rattle.owl_sem.proofs.Keeps as lemmas
use Rattle.owl_sem.proofs.keeping.adding_entailed_keeps.Goals as goal

pub returns : goal.returns
returns c = lemmas.adding_entailed_keeps
