use Rattle.std.proofs.Common.{◌≡◌, replicate}
use Rattle.fact_rows.proofs.marks.fresh_marks.Given as goal

abbrev pub invariant-loop-made : goal.invariant-loop-made
invariant-loop-made l = l.marks.items ≡ replicate l._made l.mark
