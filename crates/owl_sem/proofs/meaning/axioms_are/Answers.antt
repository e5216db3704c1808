use Rattle.owl_sem.proofs.Means as lemmas
use Rattle.owl_sem.proofs.meaning.axioms_are.Goals as goal

pub returns : goal.returns
returns c = lemmas.axioms_are
