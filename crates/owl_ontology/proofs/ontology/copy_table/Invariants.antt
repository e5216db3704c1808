use Rattle.std.proofs.Common.{◌≡◌, take}
use Rattle.indexmap.specs.IndexMap.{IsUnique}
use Rattle.owl_axioms.specs.Same.{same_axiom}
use Rattle.owl_ontology.proofs.ontology.copy_table.Given as goal

abbrev pub invariant-loop-at : goal.invariant-loop-at
invariant-loop-at l = (l.twins.entries ≡ take l.at l.axioms.entries) × IsUnique same_axiom l.twins
