use Rattle.std.proofs.Common.{IsTrue}
use Rattle.std.specs.List.{list_all}
use Rattle.owl_axioms.specs.Proper.{is_proper_side}
use Rattle.text_examples.proofs.tests.axioms.sides.Given as goal

abbrev pub invariant-loop-note : goal.invariant-loop-note
invariant-loop-note l = IsTrue (list_all is_proper_side l.sides.items)
