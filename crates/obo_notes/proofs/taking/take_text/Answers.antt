use Rattle.std.proofs.Common.{ap, refl, ◌∙◌, ◌++◌}
use Rattle.std.specs.Option.{option_or}
use Rattle.obo_notes.specs.Parts.{text_of}
use Rattle.obo_notes.specs.inner.Taking.{left_after}
use Rattle.obo_notes.proofs.LoopLemmas.{IsOneTaken-all, IsOneTaken-more}
use Rattle.obo_notes.proofs.taking.take_text.Goals as goal

pub loop-side-init : goal.loop-side-init
loop-side-init c = record { found = refl; left = c.new-rest.ensures.items }

pub loop-side-preserved : goal.loop-side-preserved
loop-side-preserved c =
    let part = text_of c.args.property.now in
    IsOneTaken-more part c.args.sides.now c.loop-side.side-index c.side-item.result c.loop-side.found _ c.loop-side.rest.items _ c.loop-side-test.true c.side-item.is c.loop-side.invariant
    (c.in_ok-take.ensures.found ∙ ap (option_or c.loop-side.found) c.in_ok-part.ensures)
    (c.in_ok-take.ensures.rest ∙ ap (λ o. c.loop-side.rest.items ++ left_after c.loop-side.found o c.side-item.result) c.in_ok-part.ensures)

pub returns-clause-part : goal.returns-clause-part
returns-clause-part c = (IsOneTaken-all (text_of c.args.property.now) c.args.sides.now c.loop-side.side-index c.loop-side.found c.loop-side.rest.items c.loop-side-test.false c.loop-side.invariant).found

pub returns-clause-rest : goal.returns-clause-rest
returns-clause-rest c = (IsOneTaken-all (text_of c.args.property.now) c.args.sides.now c.loop-side.side-index c.loop-side.found c.loop-side.rest.items c.loop-side-test.false c.loop-side.invariant).left
