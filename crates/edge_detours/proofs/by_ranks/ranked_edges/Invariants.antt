use Rattle.std.proofs.Common.{◌≡◌, take}
use Rattle.edge_detours.specs.inner.Ranks.{ranked}
use Rattle.edge_detours.proofs.by_ranks.ranked_edges.Given as goal

abbrev pub invariant-loop-a : goal.invariant-loop-a
invariant-loop-a l = l.made.items ≡ ranked l.ranks (take l.a-index l.edges)
