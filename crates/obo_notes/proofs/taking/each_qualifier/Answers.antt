use Rattle.std.proofs.Common.{ap, sym, ◌∙◌}
use Rattle.obo_notes.specs.Keys.{qualifier_of}
use Rattle.obo_notes.proofs.LoopLemmas.{each_some-more, each_some-none}
use Rattle.obo_notes.proofs.taking.each_qualifier.Goals as goal

pub loop-side-preserved : goal.loop-side-preserved
loop-side-preserved c =
    each_some-more qualifier_of c.args.sides.now c.loop-side.side-index c.side-item.result c.loop-side.qualifiers.items _ c.in-Some.qualifier c.loop-side-test.true c.side-item.is c.loop-side.invariant (sym c.in_ok-qualifier.ensures ∙ c.in-Some.is) c.in_ok-push-in-Some.ensures.items

pub returns-in-None : goal.returns-in-None
returns-in-None c =
    sym (each_some-none qualifier_of c.args.sides.now c.loop-side.side-index c.side-item.result c.loop-side-test.true (ap qualifier_of (sym c.side-item.is) ∙ sym c.in_ok-qualifier.ensures ∙ c.in-None.is))
