use Rattle.std.proofs.Common.{◌≡◌, replicate, []}
use Rattle.fact_rows.proofs.rows.empty_numbers.Given as goal

abbrev pub invariant-loop-made : goal.invariant-loop-made
invariant-loop-made l = l.rows.items ≡ replicate l._made []
