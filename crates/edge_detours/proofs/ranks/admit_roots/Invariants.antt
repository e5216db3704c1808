use Rattle.std.proofs.Common.{◌≡◌, ℕ, slice_get, Some, true}
use Rattle.edge_detours.specs.inner.Ranks.{rank}
use Rattle.fact_rows.specs.Member.{In}
use Rattle.edge_detours.proofs.ranks.admit_roots.Given as goal

abbrev pub invariant-loop-x : goal.invariant-loop-x
invariant-loop-x l = record {
  flags : (x : ℕ) → slice_get l.flags x ≡ Some true → rank l.roots (rank l.ranks x) ≡ x;
  stack : (x : ℕ) → In x l.stack.items → rank l.roots (rank l.ranks x) ≡ x;
}
