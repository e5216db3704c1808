-- With those that are left moved into it, the ontology is what it becomes.
use Rattle.std.proofs.Common.{◌≡◌, length}
use Rattle.import_merge.specs.inner.Joining.{with_moved}
use Rattle.import_merge.proofs.joining.move_into.Given as goal

abbrev pub invariant-axioms : goal.invariant-axioms
invariant-axioms l = with_moved l.ontology l.said.entries ≡ with_moved l.fn.ontology l.fn.said.entries

abbrev pub decreases-axioms : goal.decreases-axioms
decreases-axioms l = length l.said.entries
