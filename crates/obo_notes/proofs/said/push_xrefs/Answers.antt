use Rattle.std.proofs.Common.{◌++◌, ◌∷◌, [], append-nil, ap, sym, ◌∙◌}
use Rattle.obo_notes.specs.Parts.{side_of_xref}
use Rattle.obo_notes.proofs.LoopLemmas.{mapped_all, mapped_more}
use Rattle.obo_notes.proofs.said.push_xrefs.Goals as goal

pub loop-xref-init : goal.loop-xref-init
loop-xref-init c = sym (append-nil c.args.sides.now.items)

pub loop-xref-preserved : goal.loop-xref-preserved
loop-xref-preserved c =
    mapped_more side_of_xref c.args.xrefs.now c.loop-xref.xref-index c.xref-item.result c.args.sides.now.items c.loop-xref.sides.items _ c.loop-xref-test.true c.xref-item.is c.loop-xref.invariant (c.in_ok-push.ensures.items ∙ ap (λ one. c.loop-xref.sides.items ++ one ∷ []) c.in_ok-side.ensures)

pub returns : goal.returns
returns c = mapped_all side_of_xref c.args.xrefs.now c.loop-xref.xref-index c.args.sides.now.items c.loop-xref.sides.items c.loop-xref-test.false c.loop-xref.invariant
