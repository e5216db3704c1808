use Rattle.std.proofs.Common.{arith, ◌<◌, slice_index_or}
use Rattle.std.proofs.lemmas.List.{take_more, take_all}
use Rattle.el_numbers.proofs.ProperLemmas.{below_more}
use Rattle.el_numbers.proofs.tests.proper.are_below.Goals as goal

pub loop-number-preserved : goal.loop-number-preserved
loop-number-preserved c =
    let x = slice_index_or c.args.numbers.now c.loop-number.number-index 0 in
    let l : x < c.args.count = let t = c.if-number-count.false in omega arith in
    rw (take_more c.args.numbers.now c.loop-number.number-index 0 c.loop-number-test.true) (below_more _ x c.args.count c.loop-number.invariant l)

pub returns : goal.returns
returns c = λ _. rw (take_all c.loop-number.number-index c.args.numbers.now (let t = c.loop-number-test.false in omega arith)) at c.loop-number.invariant
