use Rattle.owl_axioms.proofs.Signed as signed
use Rattle.owl_axioms.proofs.sig_laws.names_are_signed.Goals as goal

pub returns : goal.returns
returns c = signed.names_are_signed c.args.one.now
