use Rattle.owl_axioms.proofs.NamedClasses.{class_iri-named, expr_text-named, is_proper-named}
use Rattle.owl_axioms.proofs.laws.class_has_iri.Goals as goal

pub returns : goal.returns
returns c = record { iri = class_iri-named c.args.iri.now; text = expr_text-named c.args.iri.now; proper = is_proper-named c.args.iri.now }
