use Rattle.std.proofs.Common.{arith, slice_index_or}
use Rattle.std.proofs.lemmas.List.{take_more}
use Rattle.edge_detours.proofs.DetourLemmas.{pushes_none, pushes_more}
use Rattle.fact_rows.proofs.Members.{in_at}
use Rattle.edge_detours.proofs.detours.push_unmarked.Goals as goal

pub loop-c-init : goal.loop-c-init
loop-c-init c = pushes_none c.args.marks.now c.args.stack.now.items

pub push_one-requires : goal.push_one-requires
push_one-requires c =
    let x = slice_index_or c.args.targets.now c.loop-c.c-index (0, 0) in
    let b = c.requires x.0 x.1 (in_at c.args.targets.now c.loop-c.c-index (0, 0) c.loop-c-test.true) in omega (arith, c.loop-c.invariant.long)

pub loop-c-preserved : goal.loop-c-preserved
loop-c-preserved c =
    let x = slice_index_or c.args.targets.now c.loop-c.c-index (0, 0) in
    rw (take_more c.args.targets.now c.loop-c.c-index (0, 0) c.loop-c-test.true) (pushes_more c.loop-c.invariant (c.in_ok-push_one.ensures x.1))
