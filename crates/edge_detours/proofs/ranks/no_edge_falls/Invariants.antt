use Rattle.std.proofs.Common.{ℕ, ◌≤◌, take}
use Rattle.edge_detours.specs.inner.Ranks.{rank}
use Rattle.fact_rows.specs.Member.{In}
use Rattle.edge_detours.proofs.ranks.no_edge_falls.Given as goal

abbrev pub invariant-loop-a : goal.invariant-loop-a
invariant-loop-a l = (a c : ℕ) → In (a, c) (take l.a-index l.edges) → rank l.ranks a ≤ rank l.ranks c
