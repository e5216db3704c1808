use Rattle.owl_sem.proofs.Depends as lemmas
use Rattle.owl_sem.proofs.names.members_depend_on_names.Goals as goal

pub returns : goal.returns
returns c = lemmas.members_depend
