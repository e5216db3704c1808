use Rattle.el_saturate.proofs.NumberLemmas.{flat_next}
use Rattle.el_saturate.specs.inner.Numbers.{inclusion_in}
use Rattle.el_saturate.proofs.numbered.inclusions.Goals as goal

pub loop-at-preserved : goal.loop-at-preserved
loop-at-preserved c = flat_next (inclusion_in c.args.numbers.now) c.args.part.now.axioms c.loop-at.at c.axiom.result.now c.loop-at.made.items c.push_inclusion.new.made.items c.axiom.ensures c.loop-at.invariant c.in_ok-push_inclusion.ensures
