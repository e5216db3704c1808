use Rattle.std.proofs.Common.{◌+◌, ◌-◌, ◌*◌, length}
use Rattle.el_numbers.specs.inner.Going.{IsUnderWay}
use Rattle.el_numbers.specs.inner.Met.{IsMet}
use Rattle.el_numbers.proofs.saturation.saturated_rows.Given as goal

abbrev pub invariant-loop-fact : goal.invariant-loop-fact
invariant-loop-fact l = record {
  under_way : IsUnderWay l.part l.limit l.rows l.waiting.items;
  met : IsMet l.part.operands.items l.rows.below.items l.met;
}

abbrev pub decreases-loop-fact : goal.decreases-loop-fact
decreases-loop-fact l = 2 * (l.limit - l.rows.count) + length l.waiting.items
