use Rattle.owl_sem.proofs.Keeps as lemmas
use Rattle.owl_sem.proofs.keeping.keeping_all_composes.Goals as goal

pub returns : goal.returns
returns c = lemmas.keeping_all_composes
