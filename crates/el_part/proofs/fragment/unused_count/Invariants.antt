use Rattle.std.proofs.Common.{◌≡◌, ◌≤◌, take}
use Rattle.owl_ontology.specs.Ontology.{axioms_of}
use Rattle.el_rules.specs.ElPart.{unused_of}
use Rattle.el_part.proofs.fragment.unused_count.Given as goal

abbrev pub invariant-loop-at : goal.invariant-loop-at
invariant-loop-at l = (l.count ≡ unused_of (take l.at (axioms_of l.ontology.entries))) × (l.count ≤ l.at)
