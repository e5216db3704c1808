use Rattle.edge_detours.specs.inner.Flags.{IsUnderWay}
use Rattle.edge_detours.proofs.by_ranks.flag_detours.Given as goal

abbrev pub invariant-loop-start : goal.invariant-loop-start
invariant-loop-start l = IsUnderWay l.rows l.node_count l.start l.seen l.fn.flags l.flags
