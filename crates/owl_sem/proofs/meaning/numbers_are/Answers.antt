use Rattle.owl_sem.proofs.Means as lemmas
use Rattle.owl_sem.proofs.meaning.numbers_are.Goals as goal

pub returns : goal.returns
returns c = lemmas.numbers_are
