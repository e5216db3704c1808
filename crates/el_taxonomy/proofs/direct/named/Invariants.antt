use Rattle.std.proofs.Common.{◌≡◌, take}
use Rattle.el_taxonomy.specs.inner.Named.{edges_numbered}
use Rattle.el_taxonomy.specs.inner.Numbers.{exprs_of}
use Rattle.el_taxonomy.proofs.direct.named.Given as goal

abbrev pub invariant-loop-lower : goal.invariant-loop-lower
invariant-loop-lower l = l.edges.items ≡ edges_numbered (exprs_of l.pool l.part) (take l.lower-index l.pairs)
