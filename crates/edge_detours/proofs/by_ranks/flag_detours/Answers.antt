use Rattle.std.proofs.Common.{arith}
use Rattle.edge_detours.proofs.RankLemmas.{next}
use Rattle.edge_detours.proofs.by_ranks.flag_detours.Goals as goal

pub loop-start-preserved : goal.loop-start-preserved
loop-start-preserved c = next c.loop-start-test.true c.loop-start.invariant (omega arith) c.in_ok-flag_detours_from.ensures
