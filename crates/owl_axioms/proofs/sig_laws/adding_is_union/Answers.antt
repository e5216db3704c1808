use Rattle.owl_axioms.proofs.Signatures as signatures
use Rattle.owl_axioms.proofs.sig_laws.adding_is_union.Goals as goal

pub returns : goal.returns
returns c = signatures.adding_is_union
