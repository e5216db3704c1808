use Rattle.std.proofs.Common.{ℕ, ◌≤◌, take}
use Rattle.fact_rows.specs.Member.{In}
use Rattle.edge_detours.proofs.detours.greatest.Given as goal

abbrev pub invariant-loop-c : goal.invariant-loop-c
invariant-loop-c l = (c i : ℕ) → In (c, i) (take l.c-index l.targets) → c ≤ l.high
