use Rattle.owl_sem.proofs.Keeps as lemmas
use Rattle.owl_sem.proofs.keeping.keeping_less.Goals as goal

pub returns : goal.returns
returns c = lemmas.keeping_less
