use Rattle.std.proofs.Common.{◌≡◌, ◌≤◌, arith, length}
use Rattle.fact_rows.proofs.Members.{in_none}
use Rattle.std.specs.List.{flat_map}
use Rattle.el_saturate.specs.inner.Numbers.{roles_in}
use Rattle.el_saturate.proofs.StepLemmas.{node_within, restriction_next, restrictions_done}
use Rattle.el_saturate.proofs.roles.part_roles.Goals as goal

pub loop-at-init : goal.loop-at-init
loop-at-init c = (c.in_ok-roles.ensures.once, c.in_ok-roles.ensures.roles, λ r d i. in_none i)

pub node-requires : goal.node-requires
node-requires c = node_within c.args.pool.now c.args.part.now c.loop-at.at c.occurs.result c.requires c.occurs.ensures

pub loop-at-preserved : goal.loop-at-preserved
loop-at-preserved c =
    restriction_next c.args.pool.now c.args.part.now.occurring c.loop-at.at c.occurs.result c.node.result.now c.loop-at.roles.keys c.add_role_of.new.roles.keys (flat_map roles_in c.args.part.now.axioms) c.occurs.ensures c.node.ensures.cell c.loop-at.invariant.0 c.loop-at.invariant.1 c.loop-at.invariant.2 c.in_ok-add_role_of.ensures

pub returns-clause-restrictions : goal.returns-clause-restrictions
returns-clause-restrictions c = restrictions_done c.args.pool.now c.args.part.now.occurring c.loop-at.at c.loop-at.roles.keys
    (let f : c.occurring-at-end.result ≤ c.loop-at.at = c.loop-at-test.false in let e : c.occurring-at-end.result ≡ length c.args.part.now.occurring = c.occurring-at-end.ensures in omega (arith, f, e)) c.loop-at.invariant.2
