use Rattle.std.proofs.Common.{◌++◌, ap, sym, ◌∙◌}
use Rattle.obo_statements.specs.inner.Sides.{annotation_of}
use Rattle.obo_statements.proofs.MeaningLoops.{annotations_each, brought_all}
use Rattle.obo_statements.proofs.sides.push_annotations.Goals as goal

pub returns : goal.returns
returns c =
    brought_all annotation_of c.args.qualifiers.now c.loop-qualifier.qualifier-index c.args.sides.now.items c.loop-qualifier.sides.items c.loop-qualifier-test.false c.loop-qualifier.invariant
    ∙ ap (λ more. c.args.sides.now.items ++ more) (sym (annotations_each c.args.qualifiers.now))
