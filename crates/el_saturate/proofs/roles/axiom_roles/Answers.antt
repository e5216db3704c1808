use Rattle.std.proofs.Common.{subst, sym}
use Rattle.fact_rows.specs.Member.{NoRepeats, none}
use Rattle.fact_rows.proofs.Members.{in_none}
use Rattle.el_saturate.proofs.RoleLemmas.{axiom_next}
use Rattle.el_saturate.proofs.roles.axiom_roles.Goals as goal

pub loop-at-init : goal.loop-at-init
loop-at-init c = (subst NoRepeats (sym c.with_hasher-roles.ensures.empty) none, λ r i. in_none i)

pub loop-at-preserved : goal.loop-at-preserved
loop-at-preserved c =
    axiom_next c.args.part.now.axioms c.loop-at.at c.axiom.result.now c.loop-at.roles.keys c.add_roles_in.new.roles.keys c.axiom.ensures c.loop-at.invariant.0 c.loop-at.invariant.1 c.in_ok-add_roles_in.ensures
