use Rattle.owl_sem.proofs.Means as lemmas
use Rattle.owl_sem.proofs.meaning.thing_and_nothing.Goals as goal

pub returns : goal.returns
returns c = lemmas.thing_and_nothing
