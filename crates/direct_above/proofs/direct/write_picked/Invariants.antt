use Rattle.std.proofs.Common.{take}
use Rattle.direct_above.specs.inner.Edges.{Writes}
use Rattle.direct_above.proofs.direct.write_picked.Given as goal

abbrev pub invariant-loop-upper : goal.invariant-loop-upper
invariant-loop-upper l = Writes l.classes l.seen l.lower (take l.upper-index l.above) l.fn.out.items l.out.items
