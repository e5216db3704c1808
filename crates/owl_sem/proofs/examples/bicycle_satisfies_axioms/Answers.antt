use Rattle.owl_sem.proofs.Tables as lemmas
use Rattle.owl_sem.proofs.examples.bicycle_satisfies_axioms.Goals as goal

pub returns : goal.returns
returns c = lemmas.axioms
