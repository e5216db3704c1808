use Rattle.std.proofs.Common.{arith, ◌<◌, slice_index_or}
use Rattle.std.proofs.lemmas.List.{take_more, take_all}
use Rattle.edge_detours.proofs.RootLemmas.{within_more}
use Rattle.edge_detours.proofs.rows.are_within.Goals as goal

pub loop-a-preserved : goal.loop-a-preserved
loop-a-preserved c =
    let x = slice_index_or c.args.edges.now c.loop-a.a-index (0, 0) in
    let l : x.0 < c.args.node_count = let t = c.if-a-node_count.false in omega arith in
    let m : x.1 < c.args.node_count = let t = c.if-c-node_count.false in omega arith in
    rw (take_more c.args.edges.now c.loop-a.a-index (0, 0) c.loop-a-test.true) (within_more _ x c.args.node_count c.loop-a.invariant l m)

pub returns : goal.returns
returns c = λ _. rw (take_all c.loop-a.a-index c.args.edges.now (let t = c.loop-a-test.false in omega arith)) at c.loop-a.invariant
