use Rattle.el_saturate.proofs.NumberLemmas.{flat_next}
use Rattle.el_saturate.specs.inner.Numbers.{sub_role_in}
use Rattle.el_saturate.proofs.numbered.sub_roles.Goals as goal

pub loop-at-preserved : goal.loop-at-preserved
loop-at-preserved c = flat_next (sub_role_in c.args.roles.now.keys) c.args.part.now.axioms c.loop-at.at c.axiom.result.now c.loop-at.made.items c.push_sub_role.new.made.items c.axiom.ensures c.loop-at.invariant c.in_ok-push_sub_role.ensures
