use Rattle.std.proofs.Common.{take}
use Rattle.direct_above.specs.inner.Marks.{MarksAll}
use Rattle.direct_above.proofs.marks.mark_all.Given as goal

abbrev pub invariant-loop-number : goal.invariant-loop-number
invariant-loop-number l = MarksAll l.stamp (take l.number-index l.numbers) l.fn.marks l.marks
