use Rattle.std.proofs.Common.{subst, sym}
use Rattle.std.specs.List.{IsDistinct}
use Rattle.owl_axioms.specs.Same.{same_axiom}
use Rattle.owl_ontology.specs.Ontology.{AreDifferent, OntologyState, axioms_of}
use Rattle.owl_axioms.specs.Proper.{AreProper}
use Rattle.owl_ontology.proofs.Entries.{axioms_of-entries}
use Rattle.owl_ontology.proofs.ontology.Ontology.len.Goals as goal

pub returns-clause-different : goal.returns-clause-different
returns-clause-different c =
    subst (λ (o : OntologyState). AreDifferent o.entries) c.self.view_is
    (subst (IsDistinct same_axiom) (sym (axioms_of-entries c.self.inside.axioms.entries)) c.self.invariant.0)

pub returns-clause-proper : goal.returns-clause-proper
returns-clause-proper c =
    subst (λ (o : OntologyState). AreProper (axioms_of o.entries)) c.self.view_is
    (subst AreProper (sym (axioms_of-entries c.self.inside.axioms.entries)) c.self.invariant.1)
