use Rattle.std.proofs.Common.{length, ◌-◌}
use Rattle.text_columns.specs.inner.Columns.{is_part}
use Rattle.text_columns.proofs.ColumnLemmas.{RunsTo}
use Rattle.text_columns.proofs.column.column_end.Given as goal

abbrev pub invariant-loop-end : goal.invariant-loop-end
invariant-loop-end l = RunsTo is_part l.text l.end

abbrev pub decreases-loop-end : goal.decreases-loop-end
decreases-loop-end l = length l.text - l.end
