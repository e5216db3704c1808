use Rattle.std.proofs.Common.{take}
use Rattle.direct_above.specs.inner.Marks.{Picks}
use Rattle.direct_above.proofs.candidates.candidates.Given as goal

abbrev pub invariant-loop-upper : goal.invariant-loop-upper
invariant-loop-upper l = Picks l.rows l.classes l.lower (take l.upper-index l.above) l.made.items
