use Rattle.owl_axioms.proofs.Growth.{more_put}
use Rattle.owl_axioms.proofs.sig.Sig.put.Goals as goal

pub returns-clause-grows : goal.returns-clause-grows
returns-clause-grows c = more_put c.put_name.result c.args.self.now c.put_name.new.self c.args.kind c.args.iri.now c.put_name.ensures.names c.put_name.ensures.unchanged
