use Rattle.std.proofs.Common.{arith, slice_index_or}
use Rattle.std.proofs.lemmas.List.{take_more, take_all}
use Rattle.edge_detours.proofs.DetourLemmas.{from_more}
use Rattle.edge_detours.proofs.detours.least_above.Goals as goal
use Rattle.edge_detours.proofs.detours.least_above.Goals.{then-start-c+then-c-low, else-start-c, else-start-c-via-then-start-c+else-c-low, else-start-c-via-else-start-c}

pub loop-c-preserved : goal.loop-c-preserved
loop-c-preserved c =
    let x = slice_index_or c.args.targets.now c.loop-c.c-index (0, 0) in
    rw (take_more c.args.targets.now c.loop-c.c-index (0, 0) c.loop-c-test.true) (elim c.if-start-c.branch [
      | then-start-c+then-c-low w ↦ from_more _ x c.args.start _ _ c.loop-c.invariant (let e = w.low-is in let t = w.if-c-low.true in omega arith) (λ u. let e = w.low-is in omega arith)
      | else-start-c w ↦ from_more _ x c.args.start _ _ c.loop-c.invariant (let e = w.low-is in omega arith) (λ u. elim w.else-start-c.branch [
        | else-start-c-via-then-start-c+else-c-low v ↦ (let t = v.if-c-low.false in let e = w.low-is in omega arith)
        | else-start-c-via-else-start-c v ↦ absurd (let t = v.if-start-c.false in omega arith)
      ])
    ])

pub returns : goal.returns
returns c = rw (take_all c.loop-c.c-index c.args.targets.now (let t = c.loop-c-test.false in omega arith)) at c.loop-c.invariant
