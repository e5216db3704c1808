use Rattle.std.proofs.Common.{ℕ, ◌<◌, take}
use Rattle.fact_rows.specs.Member.{In}
use Rattle.el_numbers.proofs.tests.proper.are_below.Given as goal

abbrev pub invariant-loop-number : goal.invariant-loop-number
invariant-loop-number l = (x : ℕ) → In x (take l.number-index l.numbers) → x < l.count
