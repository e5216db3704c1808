use Rattle.std.proofs.Common.{◌≡◌, false, replicate}
use Rattle.fact_rows.proofs.marks.fresh_flags.Given as goal

abbrev pub invariant-loop-made : goal.invariant-loop-made
invariant-loop-made l = l.flags.items ≡ replicate l._made false
