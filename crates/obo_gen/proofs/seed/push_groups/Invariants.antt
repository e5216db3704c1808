use Rattle.std.proofs.Common.{◌≡◌, ◌≤◌, ◌-◌, ◌++◌}
use Rattle.std.specs.List.{flat_map, range_with_len}
use Rattle.obo_gen.specs.Seed as spec
use Rattle.obo_gen.proofs.seed.push_groups.Given as goal

abbrev pub invariant-loop-k : goal.invariant-loop-k
invariant-loop-k l = (l.out.items ≡ l.fn.out.items ++ flat_map spec.seed_of_group (range_with_len 1 (l.k - 1))) × (1 ≤ l.k)
