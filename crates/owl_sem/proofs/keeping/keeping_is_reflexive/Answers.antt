use Rattle.owl_sem.proofs.Keeps as lemmas
use Rattle.owl_sem.proofs.keeping.keeping_is_reflexive.Goals as goal

pub returns : goal.returns
returns c = lemmas.keeping_is_reflexive
