use Rattle.std.proofs.Common.{arith, slice_index_or}
use Rattle.std.proofs.lemmas.List.{take_more, take_all}
use Rattle.direct_above.proofs.MarkingLemmas.{picks_more, to_candidates}
use Rattle.direct_above.specs.inner.Marks.{Picks}
use Rattle.direct_above.proofs.candidates.candidates.Goals as goal

pub loop-upper-preserved : goal.loop-upper-preserved
loop-upper-preserved c =
    let xs = c.number_set_at-above.result.now in
    let x = slice_index_or xs c.loop-upper.upper-index 0 in
    rw (take_more xs c.loop-upper.upper-index 0 c.loop-upper-test.true) (picks_more _ x _ c.is_candidate-is_wanted.result c.loop-upper.made.items c.push_if.new.made.items c.loop-upper.invariant c.is_candidate-is_wanted.ensures.on c.is_candidate-is_wanted.ensures.each c.in_ok-push_if.ensures)

pub returns : goal.returns
returns c =
    let p : Picks c.args.rows.now c.args.classes.now c.args.lower c.number_set_at-above.result.now c.loop-upper.made.items = rw (take_all c.loop-upper.upper-index c.number_set_at-above.result.now (let t = c.loop-upper-test.false in omega arith)) at c.loop-upper.invariant in
    to_candidates c.loop-upper.made.items (rw c.number_set_at-above.ensures at p)
