use Rattle.owl_sem.proofs.Depends as lemmas
use Rattle.owl_sem.proofs.names.satisfaction_depends_on_names.Goals as goal

pub returns : goal.returns
returns c = lemmas.satisfaction_depends
