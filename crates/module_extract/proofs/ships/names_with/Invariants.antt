use Rattle.std.proofs.Common.{◌≡◌, take}
use Rattle.owl_axioms.specs.Names.{names_of}
use Rattle.owl_axioms.specs.Signature.{added}
use Rattle.owl_ontology.specs.Ontology.{axioms_of, flagged}
use Rattle.module_extract.proofs.ships.names_with.Given as goal

abbrev pub invariant-loop-at : goal.invariant-loop-at
invariant-loop-at l = l.names ≡ added l.sig (names_of (flagged (take l.at l.kept.items) (take l.at (axioms_of l.ontology.entries))))
