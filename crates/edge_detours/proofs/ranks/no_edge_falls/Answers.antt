use Rattle.std.proofs.Common.{arith, ◌≤◌, slice_index_or}
use Rattle.std.proofs.lemmas.List.{take_more, take_all}
use Rattle.edge_detours.proofs.RootLemmas.{rise_more}
use Rattle.edge_detours.specs.inner.Ranks.{rank}
use Rattle.edge_detours.proofs.ranks.no_edge_falls.Goals as goal

pub loop-a-preserved : goal.loop-a-preserved
loop-a-preserved c =
    let x = slice_index_or c.args.edges.now c.loop-a.a-index (0, 0) in
    let l : rank c.args.ranks.now x.0 ≤ rank c.args.ranks.now x.1 = let t = c.if-rank_of.false in let e = c.rank_of.ensures in let f = c.rank_of-in-loop-a.ensures in omega arith in
    rw (take_more c.args.edges.now c.loop-a.a-index (0, 0) c.loop-a-test.true) (rise_more _ x c.args.ranks.now c.loop-a.invariant l)

pub returns : goal.returns
returns c = λ _. rw (take_all c.loop-a.a-index c.args.edges.now (let t = c.loop-a-test.false in omega arith)) at c.loop-a.invariant
