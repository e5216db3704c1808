use Rattle.std.proofs.Common.{ℕ, ◌<◌}
use Rattle.edge_detours.specs.inner.Ranks.{rank}
use Rattle.edge_detours.proofs.ranks.are_below.Given as goal

abbrev pub invariant-loop-rank : goal.invariant-loop-rank
invariant-loop-rank l = (x : ℕ) → x < l.rank-index → rank l.ranks x < l.node_count
