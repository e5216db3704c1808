use Rattle.std.proofs.Common.{◌≡◌, ◌++◌, map, take}
use Rattle.relax_axioms.specs.Relax.{step_entries}
use Rattle.relax_axioms.specs.Relaxed.{plain}
use Rattle.relax_axioms.proofs.adding.add_each.Given as goal

abbrev pub invariant-loop-at : goal.invariant-loop-at
invariant-loop-at l = l.ontology ≡ record l.fn.ontology { entries = l.fn.ontology.entries ++ step_entries (map plain (take l.at l.bodies.keys)) }
