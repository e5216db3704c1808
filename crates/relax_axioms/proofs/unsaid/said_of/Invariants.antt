use Rattle.std.proofs.Common.{◌≡◌, ◌&&◌, take}
use Rattle.indexmap.specs.IndexSet.{contains}
use Rattle.owl_axioms.specs.declared.body.Body.{Body}
use Rattle.owl_ontology.specs.Ontology.{axioms_of}
use Rattle.relax_axioms.specs.Implied.{is_said, same_body}
use Rattle.relax_axioms.proofs.unsaid.said_of.Given as goal

abbrev pub invariant-loop-at : goal.invariant-loop-at
invariant-loop-at l = (b : Body) → contains same_body l.said b ≡ (contains same_body l.bodies b && is_said (take l.at (axioms_of l.ontology.entries)) b)
