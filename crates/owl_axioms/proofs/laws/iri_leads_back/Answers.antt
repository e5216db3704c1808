use Rattle.owl_axioms.proofs.NamedClasses.{class_named-iri}
use Rattle.owl_axioms.proofs.laws.iri_leads_back.Goals as goal

pub returns : goal.returns
returns c = class_named-iri c.args.expr.now
