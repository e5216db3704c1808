use Rattle.el_saturate.proofs.NumberLemmas.{flat_next}
use Rattle.el_saturate.specs.inner.Numbers.{chain_in}
use Rattle.el_saturate.proofs.numbered.chains.Goals as goal

pub loop-at-preserved : goal.loop-at-preserved
loop-at-preserved c = flat_next (chain_in c.args.roles.now.keys) c.args.part.now.axioms c.loop-at.at c.axiom.result.now c.loop-at.made.items c.push_chain.new.made.items c.axiom.ensures c.loop-at.invariant c.in_ok-push_chain.ensures
