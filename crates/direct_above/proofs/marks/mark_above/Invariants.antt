use Rattle.std.proofs.Common.{take}
use Rattle.direct_above.specs.inner.Marks.{MarksAbove}
use Rattle.direct_above.proofs.marks.mark_above.Given as goal

abbrev pub invariant-loop-upper : goal.invariant-loop-upper
invariant-loop-upper l = MarksAbove l.rows l.stamp l.middle (take l.upper-index l.above) l.fn.seen l.fn.covered l.seen l.covered
