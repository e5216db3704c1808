use Rattle.std.proofs.Common.{◌≡◌, [], take}
use Rattle.indexmap.specs.IndexSet.{insert_all}
use Rattle.owl_ontology.specs.Ontology.{axioms_of}
use Rattle.relax_axioms.specs.Implied.{all_implied, same_body}
use Rattle.relax_axioms.proofs.implied.wanted.Given as goal

abbrev pub invariant-loop-at : goal.invariant-loop-at
invariant-loop-at l = l.bodies.keys ≡ insert_all same_body [] (all_implied (take l.at (axioms_of l.ontology.entries)))
