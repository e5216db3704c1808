use Rattle.std.proofs.Common.{arith, slice_index_or}
use Rattle.std.proofs.lemmas.List.{take_more, take_all}
use Rattle.edge_detours.proofs.DetourLemmas.{up_to_more}
use Rattle.edge_detours.proofs.detours.greatest.Goals as goal
use Rattle.edge_detours.proofs.detours.greatest.Goals.{then-high-c, else-high-c}

pub loop-c-preserved : goal.loop-c-preserved
loop-c-preserved c =
    let x = slice_index_or c.args.targets.now c.loop-c.c-index (0, 0) in
    rw (take_more c.args.targets.now c.loop-c.c-index (0, 0) c.loop-c-test.true) (elim c.if-high-c.branch [
      | then-high-c w ↦ up_to_more _ x _ _ c.loop-c.invariant (let t = w.if-high-c.true in let e = w.high-is in omega arith) (let e = w.high-is in omega arith)
      | else-high-c w ↦ up_to_more _ x _ _ c.loop-c.invariant (let e = w.high-is in omega arith) (let t = w.if-high-c.false in let e = w.high-is in omega arith)
    ])

pub returns : goal.returns
returns c = rw (take_all c.loop-c.c-index c.args.targets.now (let t = c.loop-c-test.false in omega arith)) at c.loop-c.invariant
