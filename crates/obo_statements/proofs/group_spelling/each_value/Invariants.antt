-- The values so far are those of the operands of the turns so far.
use Rattle.std.proofs.Common.{◌≡◌, Some, take}
use Rattle.text_sets.specs.Parts.{each_some}
use Rattle.obo_notes.specs.Context.{writing_in}
use Rattle.obo_statements.specs.Groups.{group_meant, operand_value}
use Rattle.obo_statements.proofs.group_spelling.each_value.Given as goal

abbrev pub invariant-loop-operand : goal.invariant-loop-operand
invariant-loop-operand l = each_some (operand_value (writing_in l.space) (group_meant l.group)) (take l.operand-index l.operands) ≡ Some l.values.items
