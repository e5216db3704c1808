use Rattle.std.proofs.Common.{slice_index_or, take}
use Rattle.std.proofs.lemmas.List.{take_more}
use Rattle.edge_detours.proofs.RootLemmas.{within_swapped}
use Rattle.edge_detours.proofs.WalkLemmas.{rows_inside, done_more}
use Rattle.edge_detours.specs.inner.Rows.{swapped}
use Rattle.fact_rows.proofs.Members.{in_at}
use Rattle.edge_detours.proofs.by_walks.flags_by_walks.Goals as goal

pub is_redundant-requires-clause-inside : goal.is_redundant-requires-clause-inside
is_redundant-requires-clause-inside c = rows_inside c.args.edges.now c.args.node_count c.args.rows.now c.requires.within c.requires.rows

pub is_redundant-requires-clause-back : goal.is_redundant-requires-clause-back
is_redundant-requires-clause-back c = rows_inside (swapped c.args.edges.now) c.args.node_count c.args.back.now (within_swapped c.args.edges.now c.args.node_count c.requires.within) c.requires.back

pub is_redundant-requires-clause-from : goal.is_redundant-requires-clause-from
is_redundant-requires-clause-from c = let x = slice_index_or c.args.edges.now c.loop-a.a-index (0, 0) in (c.requires.within x.0 x.1 (in_at c.args.edges.now c.loop-a.a-index (0, 0) c.loop-a-test.true)).0

pub is_redundant-requires-clause-to : goal.is_redundant-requires-clause-to
is_redundant-requires-clause-to c = let x = slice_index_or c.args.edges.now c.loop-a.a-index (0, 0) in (c.requires.within x.0 x.1 (in_at c.args.edges.now c.loop-a.a-index (0, 0) c.loop-a-test.true)).1

pub loop-a-preserved : goal.loop-a-preserved
loop-a-preserved c =
    let x = slice_index_or c.args.edges.now c.loop-a.a-index (0, 0) in
    rw (take_more c.args.edges.now c.loop-a.a-index (0, 0) c.loop-a-test.true, c.in_ok-push.ensures.items)
    (done_more c.args.edges.now c.args.rows.now c.args.back.now c.requires.rows c.requires.back (take c.loop-a.a-index c.args.edges.now) c.loop-a.flags.items x.0 x.1 c.in_ok-is_flagged.is_flagged c.loop-a.invariant c.in_ok-is_flagged.ensures.on c.in_ok-is_flagged.ensures.each)
