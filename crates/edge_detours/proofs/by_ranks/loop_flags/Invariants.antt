use Rattle.std.proofs.Common.{◌≡◌, ◌==◌, ℕ, take, map}
use Rattle.edge_detours.proofs.by_ranks.loop_flags.Given as goal

abbrev pub invariant-loop-a : goal.invariant-loop-a
invariant-loop-a l = l.flags.items ≡ map (λ (e : ℕ × ℕ). e.0 == e.1) (take l.a-index l.edges)
