use Rattle.std.proofs.Common.{slice_index_or}
use Rattle.std.proofs.lemmas.List.{take_more}
use Rattle.direct_above.proofs.WritingLemmas.{writes_more}
use Rattle.direct_above.proofs.direct.write_picked.Goals as goal

pub loop-upper-preserved : goal.loop-upper-preserved
loop-upper-preserved c =
    let x = slice_index_or c.args.above.now c.loop-upper.upper-index 0 in
    rw (take_more c.args.above.now c.loop-upper.upper-index 0 c.loop-upper-test.true) (writes_more _ x c.is_picked-is_wanted.result c.args.out.now.items c.loop-upper.out.items c.push_if.new.made.items c.loop-upper.invariant c.is_picked-is_wanted.ensures.on c.is_picked-is_wanted.ensures.each c.in_ok-push_if.ensures)
