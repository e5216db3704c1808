use Rattle.std.proofs.Common.{◌++◌, ◌∷◌, [], append-nil, ap, sym, ◌∙◌}
use Rattle.obo_notes.specs.Keys.{side_of_qualifier}
use Rattle.obo_notes.proofs.LoopLemmas.{mapped_all, mapped_more}
use Rattle.obo_notes.proofs.said.push_qualifiers.Goals as goal

pub loop-qualifier-init : goal.loop-qualifier-init
loop-qualifier-init c = sym (append-nil c.args.sides.now.items)

pub loop-qualifier-preserved : goal.loop-qualifier-preserved
loop-qualifier-preserved c =
    mapped_more side_of_qualifier c.args.qualifiers.now c.loop-qualifier.qualifier-index c.qualifier-item.result c.args.sides.now.items c.loop-qualifier.sides.items _ c.loop-qualifier-test.true c.qualifier-item.is c.loop-qualifier.invariant (c.in_ok-push.ensures.items ∙ ap (λ one. c.loop-qualifier.sides.items ++ one ∷ []) c.in_ok-side.ensures)

pub returns : goal.returns
returns c = mapped_all side_of_qualifier c.args.qualifiers.now c.loop-qualifier.qualifier-index c.args.sides.now.items c.loop-qualifier.sides.items c.loop-qualifier-test.false c.loop-qualifier.invariant
