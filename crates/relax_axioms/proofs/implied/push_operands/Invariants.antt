use Rattle.std.proofs.Common.{◌≡◌, take}
use Rattle.indexmap.specs.IndexSet.{insert_all}
use Rattle.relax_axioms.specs.Implied.{implied_by, same_body}
use Rattle.relax_axioms.proofs.implied.push_operands.Given as goal

abbrev pub invariant-loop-operand : goal.invariant-loop-operand
invariant-loop-operand l = l.bodies.keys ≡ insert_all same_body l.fn.bodies.keys (implied_by l.class (take l.operand-index l.operands))
