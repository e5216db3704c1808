use Rattle.std.proofs.Common.{ℕ, ◌<◌}
use Rattle.edge_detours.specs.inner.Walks.{IsApart}
use Rattle.edge_detours.proofs.by_walks.has_apart.Given as goal

abbrev pub invariant-loop-b : goal.invariant-loop-b
invariant-loop-b l = (b : ℕ) → b < l.b → IsApart l.froms l.tos l.backs l.returns b → ⊥
