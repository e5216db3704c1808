use Rattle.std.proofs.Common.{ℕ, ◌<◌, take}
use Rattle.fact_rows.specs.Member.{In}
use Rattle.el_numbers.proofs.tests.proper.triples_are_below.Given as goal

abbrev pub invariant-loop-one : goal.invariant-loop-one
invariant-loop-one l = (r s t : ℕ) → In (r, s, t) (take l.one-index l.triples) → (r < l.count) × (s < l.count) × (t < l.count)
