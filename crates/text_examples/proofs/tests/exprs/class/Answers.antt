use Rattle.std.proofs.Common.{subst, sym}
use Rattle.owl_axioms.specs.Made.{IsProperExpr}
use Rattle.owl_axioms.proofs.NamedClasses.{is_proper-named}
use Rattle.text_examples.proofs.tests.exprs.class.Goals as goal

pub returns : goal.returns
returns c = subst IsProperExpr (sym c.class_named.ensures) (is_proper-named c.in_ok-iri.field-0 c.in_ok-iri.ensures)
