use Rattle.std.proofs.Common.{ℕ, ◌<◌, slice_get}
use Rattle.fact_rows.specs.Rows.{row}
use Rattle.el_numbers.specs.inner.Fits.{Fits}
use Rattle.el_numbers.proofs.tests.proper.all_fit.Given as goal

abbrev pub invariant-loop-at : goal.invariant-loop-at
invariant-loop-at l = (a : ℕ) → a < l.at → Fits l.count (slice_get l.shapes a) (row l.operands a)
