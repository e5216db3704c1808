use Rattle.std.proofs.Common.{map, take}
use Rattle.std.specs.List.{flat_map}
use Rattle.expr_pool.specs.Pool.{tree_at}
use Rattle.fact_rows.specs.Member.{NoRepeats}
use Rattle.el_saturate.specs.inner.Numbers.{HasRestrictions, HasRoles, roles_in}
use Rattle.el_saturate.proofs.roles.part_roles.Given as goal

abbrev pub invariant-loop-at : goal.invariant-loop-at
invariant-loop-at l = NoRepeats l.roles.keys × HasRoles l.roles.keys (flat_map roles_in l.part.axioms) × HasRestrictions (take l.at (map (tree_at l.pool) l.part.occurring)) l.roles.keys
