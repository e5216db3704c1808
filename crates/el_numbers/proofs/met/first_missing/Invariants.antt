use Rattle.std.proofs.Common.{ℕ, take}
use Rattle.fact_rows.specs.Member.{In}
use Rattle.fact_rows.specs.Rows.{row}
use Rattle.el_numbers.proofs.met.first_missing.Given as goal

abbrev pub invariant-loop-place : goal.invariant-loop-place
invariant-loop-place l = (x : ℕ) → In x (take l.place l.numbers) → In x (row l.rows l.at)
