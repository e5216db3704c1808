use Rattle.std.proofs.Common.{◌≡◌, ◌++◌, map, take}
use Rattle.std.specs.List.{join_with_byte}
use Rattle.std.specs.Prelude.{nat_eq}
use Rattle.owl_axioms.specs.Text.{expr_text}
use Rattle.owl_axioms.proofs.text.+writing.Given as goal

abbrev pub invariant-push_operands-loop-operand : goal.invariant-push_operands-loop-operand
invariant-push_operands-loop-operand l =
    (l.out.items ≡ l.initial.out.items ++ join_with_byte 32 (map expr_text (take l.operand-index l.operands))) × (l.is_first ≡ nat_eq l.operand-index 0)
