use Rattle.owl_sem.proofs.Means as lemmas
use Rattle.owl_sem.proofs.meaning.two_complements.Goals as goal

pub returns : goal.returns
returns c = lemmas.two_complements
