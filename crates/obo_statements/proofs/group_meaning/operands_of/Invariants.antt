-- The operands so far are those of the clauses so far.
use Rattle.std.proofs.Common.{◌≡◌, Some, take}
use Rattle.text_sets.specs.Parts.{each_some}
use Rattle.obo_notes.specs.Context.{reading_in}
use Rattle.obo_statements.specs.Groups.{group_meant, operand_of}
use Rattle.obo_statements.proofs.group_meaning.operands_of.Given as goal

abbrev pub invariant-loop-clause : goal.invariant-loop-clause
invariant-loop-clause l = each_some (λ clause. operand_of (reading_in l.space) (group_meant l.group) clause.now) (take l.clause-index l.clauses) ≡ Some l.operands.items
