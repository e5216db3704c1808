use Rattle.owl_sem.proofs.Keeps as lemmas
use Rattle.owl_sem.proofs.keeping.same_axioms_keep.Goals as goal

pub returns : goal.returns
returns c = lemmas.same_axioms_keep
