use Rattle.el_saturate.proofs.NumberLemmas.{flat_next}
use Rattle.el_saturate.specs.inner.Numbers.{domain_in}
use Rattle.el_saturate.proofs.numbered.domains.Goals as goal

pub loop-at-preserved : goal.loop-at-preserved
loop-at-preserved c = flat_next (domain_in c.args.numbers.now c.args.roles.now.keys) c.args.part.now.axioms c.loop-at.at c.axiom.result.now c.loop-at.made.items c.push_domain.new.made.items c.axiom.ensures c.loop-at.invariant c.in_ok-push_domain.ensures
