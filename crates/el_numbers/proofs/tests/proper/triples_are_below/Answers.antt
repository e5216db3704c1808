use Rattle.std.proofs.Common.{arith, ◌<◌, slice_index_or}
use Rattle.std.proofs.lemmas.List.{take_more, take_all}
use Rattle.el_numbers.proofs.ProperLemmas.{triples_more}
use Rattle.el_numbers.proofs.tests.proper.triples_are_below.Goals as goal

pub loop-one-preserved : goal.loop-one-preserved
loop-one-preserved c =
    let x = slice_index_or c.args.triples.now c.loop-one.one-index (0, 0, 0) in
    let l : x.0 < c.args.count = let t = c.if-one-count.false in omega arith in
    let m : x.1 < c.args.count = let t = c.if-other-count.false in omega arith in
    let n : x.2 < c.args.count = let t = c.if-third-count.false in omega arith in
    rw (take_more c.args.triples.now c.loop-one.one-index (0, 0, 0) c.loop-one-test.true) (triples_more _ x c.args.count c.loop-one.invariant l m n)

pub returns : goal.returns
returns c = λ _. rw (take_all c.loop-one.one-index c.args.triples.now (let t = c.loop-one-test.false in omega arith)) at c.loop-one.invariant
