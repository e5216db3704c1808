use Rattle.obo_notes.specs.Parts.{xref_of}
use Rattle.obo_notes.proofs.LoopLemmas.{AreTaken-all, AreTaken-more}
use Rattle.obo_notes.proofs.taking.xrefs_and_rest.Goals as goal

pub loop-side-init : goal.loop-side-init
loop-side-init c = record { own = c.new-xrefs.ensures.items; left = c.new-rest.ensures.items }

pub loop-side-preserved : goal.loop-side-preserved
loop-side-preserved c =
    AreTaken-more xref_of c.args.sides.now c.loop-side.side-index c.side-item.result c.loop-side.xrefs.items _ c.loop-side.rest.items _ c.loop-side-test.true c.side-item.is c.loop-side.invariant c.in_ok-take_xref.ensures.parts c.in_ok-take_xref.ensures.rest

pub returns-clause-parts : goal.returns-clause-parts
returns-clause-parts c = (AreTaken-all xref_of c.args.sides.now c.loop-side.side-index c.loop-side.xrefs.items c.loop-side.rest.items c.loop-side-test.false c.loop-side.invariant).own

pub returns-clause-rest : goal.returns-clause-rest
returns-clause-rest c = (AreTaken-all xref_of c.args.sides.now c.loop-side.side-index c.loop-side.xrefs.items c.loop-side.rest.items c.loop-side-test.false c.loop-side.invariant).left
