use Rattle.std.proofs.Common.{◌≡◌, ◌++◌, take}
use Rattle.el_numbers.specs.inner.Conclude.{clashes}
use Rattle.fact_rows.specs.Rows.{row}
use Rattle.el_numbers.proofs.conclude.push_clashes.Given as goal

abbrev pub invariant-loop-e : goal.invariant-loop-e
invariant-loop-e l = l.out.items ≡ l.initial.out.items ++ clashes l.c (row l.rows l.c) (take l.e-index l.others)
