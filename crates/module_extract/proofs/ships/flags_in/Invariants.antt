use Rattle.std.proofs.Common.{◌≡◌, take}
use Rattle.owl_axioms.specs.Signature.{scope_of}
use Rattle.owl_ontology.specs.Ontology.{axioms_of}
use Rattle.module_extract.specs.Shipped.{ships_each}
use Rattle.module_extract.proofs.ships.flags_in.Given as goal

abbrev pub invariant-loop-at : goal.invariant-loop-at
invariant-loop-at l = l.flags.items ≡ ships_each (scope_of l.names) (take l.at (axioms_of l.ontology.entries)) (take l.at l.kept.items)
