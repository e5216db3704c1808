use Rattle.std.proofs.Common.{◌∙◌, sym, true≢false}
use Rattle.direct_above.proofs.WritingLemmas.{begins, next_off, next_on}
use Rattle.direct_above.proofs.direct.direct_edges.Goals as goal
use Rattle.direct_above.proofs.direct.direct_edges.Goals.{then-is_flagged+in_ok-write_direct, else-is_flagged}

pub loop-lower-init : goal.loop-lower-init
loop-lower-init c = rw c.new-out.ensures.items (begins _ _ (c.as_mut_slice-seen.ensures.value ∙ c.in_ok-marks.ensures) (c.as_mut_slice-covered.ensures.value ∙ c.in_ok-covers.ensures))

pub loop-lower-preserved : goal.loop-lower-preserved
loop-lower-preserved c = elim c.if-is_flagged.branch [
  | then-is_flagged+in_ok-write_direct w ↦ rw (w.out-is, w.seen-is, w.covered-is)
      (next_on _ _ _ _ _ _ _ (c.is_flagged.ensures.0 w.if-is_flagged.true) w.write_direct.auto.seen w.write_direct.auto.covered w.in_ok-write_direct.ensures c.loop-lower.invariant)
  | else-is_flagged w ↦ rw (w.out-is, w.seen-is, w.covered-is) (next_off _ _ _ _ (λ h. absurd (true≢false (sym (c.is_flagged.ensures.1 h) ∙ w.if-is_flagged.false))) c.loop-lower.invariant)
]
