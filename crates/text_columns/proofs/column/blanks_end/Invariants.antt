use Rattle.std.proofs.Common.{length, ◌-◌}
use Rattle.obo_lexer.specs.Tokens.{is_blank}
use Rattle.text_columns.proofs.ColumnLemmas.{RunsTo}
use Rattle.text_columns.proofs.column.blanks_end.Given as goal

abbrev pub invariant-loop-end : goal.invariant-loop-end
invariant-loop-end l = RunsTo is_blank l.text l.end

abbrev pub decreases-loop-end : goal.decreases-loop-end
decreases-loop-end l = length l.text - l.end
