use Rattle.owl_sem.proofs.Tables as lemmas
use Rattle.owl_sem.proofs.examples.bicycle_has_members.Goals as goal

pub returns : goal.returns
returns c = lemmas.expressions
