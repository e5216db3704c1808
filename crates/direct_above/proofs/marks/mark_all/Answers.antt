use Rattle.std.proofs.Common.{arith, ◌<◌, slice_index_or, length}
use Rattle.std.proofs.lemmas.List.{take_more}
use Rattle.direct_above.proofs.MarkingLemmas.{all_more}
use Rattle.fact_rows.proofs.Members.{in_at}
use Rattle.direct_above.proofs.marks.mark_all.Goals as goal

pub mark-requires : goal.mark-requires
mark-requires c =
    let x = slice_index_or c.args.numbers.now c.loop-number.number-index 0 in
    let b = c.requires x (in_at c.args.numbers.now c.loop-number.number-index 0 c.loop-number-test.true) in omega (arith, c.loop-number.invariant.long)

pub loop-number-preserved : goal.loop-number-preserved
loop-number-preserved c =
    let x = slice_index_or c.args.numbers.now c.loop-number.number-index 0 in
    let b = c.requires x (in_at c.args.numbers.now c.loop-number.number-index 0 c.loop-number-test.true) in
    let l : x < length c.loop-number.marks = omega (arith, c.loop-number.invariant.long) in
    rw (take_more c.args.numbers.now c.loop-number.number-index 0 c.loop-number-test.true) (all_more c.args.stamp _ x c.args.marks.now c.loop-number.marks c.mark.new.marks c.loop-number.invariant l c.mark.ensures)
