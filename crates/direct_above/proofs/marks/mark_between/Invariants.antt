use Rattle.std.proofs.Common.{take}
use Rattle.direct_above.specs.inner.Marks.{IsGoing}
use Rattle.direct_above.proofs.marks.mark_between.Given as goal

abbrev pub invariant-loop-middle : goal.invariant-loop-middle
invariant-loop-middle l = IsGoing l.rows l.stamp (take l.middle-index l.order) l.fn.seen l.fn.covered l.seen l.covered
