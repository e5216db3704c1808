use Rattle.std.proofs.Common.{arith, ◌≢◌, ◌≤◌, ap, Some, slice_index_or, ◌∙◌}
use Rattle.edge_detours.proofs.DetourLemmas.{pushes_skip, pushes_new}
use Rattle.fact_rows.proofs.Places.{get_read}
use Rattle.edge_detours.proofs.detours.push_one.Goals as goal
use Rattle.edge_detours.proofs.detours.push_one.Goals.{then-target-low-via-then-target-low, then-target-low-via-else-target-low+then-high-target, then-target-low-via-else-target-low+else-high-target+then-marks-target}

pub returns-then-target-low : goal.returns-then-target-low
returns-then-target-low c = λ i. elim c.then-target-low.branch [
  | then-target-low-via-then-target-low w ↦ pushes_skip _ _ _ _ (λ l r. absurd (let t = w.if-target-low.true in omega arith))
  | then-target-low-via-else-target-low+then-high-target w ↦ pushes_skip _ _ _ _ (λ l r. absurd (let t = w.if-high-target.true in omega arith))
  | then-target-low-via-else-target-low+else-high-target+then-marks-target w ↦ pushes_skip _ _ _ _ (λ l r. get_read c.args.marks.now c.args.target 0 c.requires ∙ ap Some (w.if-marks-target.true))
]

pub returns : goal.returns
returns c = λ i.
    let low : c.args.low ≤ c.args.target = let t = c.if-target-low.false in omega arith in
    let other : slice_index_or c.args.marks.now c.args.target 0 ≢ c.args.mark = λ e. c.if-marks-target.false e in
    rw c.in_ok-push.ensures.items (pushes_new c.args.marks.now c.args.stack.now.items c.args.target i (slice_index_or c.args.marks.now c.args.target 0) low (get_read c.args.marks.now c.args.target 0 c.requires) other)
