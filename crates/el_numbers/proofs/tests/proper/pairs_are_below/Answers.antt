use Rattle.std.proofs.Common.{arith, ◌<◌, slice_index_or}
use Rattle.std.proofs.lemmas.List.{take_more, take_all}
use Rattle.el_numbers.proofs.ProperLemmas.{pairs_more}
use Rattle.el_numbers.proofs.tests.proper.pairs_are_below.Goals as goal

pub loop-one-preserved : goal.loop-one-preserved
loop-one-preserved c =
    let x = slice_index_or c.args.pairs.now c.loop-one.one-index (0, 0) in
    let l : x.0 < c.args.first = let t = c.if-one-first.false in omega arith in
    let m : x.1 < c.args.second = let t = c.if-other-second.false in omega arith in
    rw (take_more c.args.pairs.now c.loop-one.one-index (0, 0) c.loop-one-test.true) (pairs_more _ x c.args.first c.args.second c.loop-one.invariant l m)

pub returns : goal.returns
returns c = λ _. rw (take_all c.loop-one.one-index c.args.pairs.now (let t = c.loop-one-test.false in omega arith)) at c.loop-one.invariant
