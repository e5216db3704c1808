use Rattle.std.proofs.Common.{arith, slice_index_or}
use Rattle.std.proofs.lemmas.List.{take_more, take_all}
use Rattle.edge_detours.proofs.DetourLemmas.{marked_more}
use Rattle.edge_detours.proofs.detours.all_marked.Goals as goal
use Rattle.edge_detours.proofs.detours.all_marked.Goals.{else-low-c-via-then-low-c+else-not-is_marked, else-low-c-via-else-low-c}

pub loop-c-preserved : goal.loop-c-preserved
loop-c-preserved c =
    let x = slice_index_or c.args.targets.now c.loop-c.c-index (0, 0) in
    rw (take_more c.args.targets.now c.loop-c.c-index (0, 0) c.loop-c-test.true) (elim c.else-low-c.branch [
      | else-low-c-via-then-low-c+else-not-is_marked w ↦ marked_more _ x c.args.low c.args.start c.args.marks.now c.loop-c.invariant (λ l. w.is_marked.ensures.0 w.if-not-is_marked.false)
      | else-low-c-via-else-low-c w ↦ marked_more _ x c.args.low c.args.start c.args.marks.now c.loop-c.invariant (λ l. absurd (let t = w.if-low-c.false in omega arith))
    ])

pub returns : goal.returns
returns c = λ _. rw (take_all c.loop-c.c-index c.args.targets.now (let t = c.loop-c-test.false in omega arith)) at c.loop-c.invariant
