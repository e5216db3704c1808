use Rattle.std.proofs.Common.{◌≡◌, ◌++◌, take}
use Rattle.el_numbers.specs.inner.Conclude.{and_belows}
use Rattle.el_numbers.specs.inner.Met.{IsMet}
use Rattle.fact_rows.specs.Rows.{row}
use Rattle.el_numbers.proofs.conclude.push_and_belows.Given as goal

abbrev pub invariant-loop-a : goal.invariant-loop-a
invariant-loop-a l = record {
  out : l.out.items ≡ l.initial.out.items ++ and_belows l.part.operands.items l.c (row l.rows l.c) (take l.a-index l.ands);
  met : IsMet l.part.operands.items l.rows l.met;
}
