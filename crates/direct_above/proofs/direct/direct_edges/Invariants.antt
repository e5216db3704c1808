use Rattle.direct_above.specs.inner.Edges.{IsUnderWay}
use Rattle.direct_above.proofs.direct.direct_edges.Given as goal

abbrev pub invariant-loop-lower : goal.invariant-loop-lower
invariant-loop-lower l = IsUnderWay l.rows l.told l.classes l.declared l.count l.lower l.out.items l.seen l.covered
