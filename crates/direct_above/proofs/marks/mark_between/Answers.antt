use Rattle.std.proofs.Common.{slice_index_or}
use Rattle.std.proofs.lemmas.List.{take_more}
use Rattle.direct_above.proofs.marks.mark_between.Goals as goal

pub loop-middle-preserved : goal.loop-middle-preserved
loop-middle-preserved c =
    let x = slice_index_or c.args.order.now c.loop-middle.middle-index (0, 0) in
    rw (take_more c.args.order.now c.loop-middle.middle-index (0, 0) c.loop-middle-test.true) (c.mark_above_uncovered.ensures x.0 _ c.args.seen.now c.args.covered.now c.loop-middle.invariant)
