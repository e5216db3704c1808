use Rattle.std.proofs.Common.{ℕ, ◌<◌, take}
use Rattle.fact_rows.specs.Member.{In}
use Rattle.el_numbers.proofs.tests.proper.pairs_are_below.Given as goal

abbrev pub invariant-loop-one : goal.invariant-loop-one
invariant-loop-one l = (d e : ℕ) → In (d, e) (take l.one-index l.pairs) → (d < l.first) × (e < l.second)
