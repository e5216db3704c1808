use Rattle.el_taxonomy.specs.inner.Least.{IsFound}
use Rattle.el_taxonomy.proofs.unsatisfiable.first_unsatisfiable.Given as goal

abbrev pub invariant-loop-at : goal.invariant-loop-at
invariant-loop-at l = IsFound l.ontology.entries l.part l.table l.at l.found
