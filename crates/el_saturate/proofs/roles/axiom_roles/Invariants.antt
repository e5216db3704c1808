use Rattle.std.proofs.Common.{take}
use Rattle.std.specs.List.{flat_map}
use Rattle.fact_rows.specs.Member.{NoRepeats}
use Rattle.el_saturate.specs.inner.Numbers.{HasRoles, roles_in}
use Rattle.el_saturate.proofs.roles.axiom_roles.Given as goal

abbrev pub invariant-loop-at : goal.invariant-loop-at
invariant-loop-at l = NoRepeats l.roles.keys × HasRoles l.roles.keys (flat_map roles_in (take l.at l.part.axioms))
