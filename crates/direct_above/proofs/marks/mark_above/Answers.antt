use Rattle.std.proofs.Common.{arith, ◌≡◌, ◌<◌, slice_index_or, length, subst, ap, true}
use Rattle.std.proofs.lemmas.List.{take_more}
use Rattle.direct_above.proofs.MarkingLemmas.{above_more}
use Rattle.direct_above.specs.inner.Marks.{IsShorter}
use Rattle.fact_rows.proofs.Members.{in_at}
use Rattle.fact_rows.specs.Member.{In}
use Rattle.fact_rows.specs.Rows.{row}
use Rattle.direct_above.proofs.marks.mark_above.Goals as goal

pub mark_if-requires : goal.mark_if-requires
mark_if-requires c =
    let xs = c.number_set_at-above.result.now in
    let b = c.requires.seen _ (subst (In (slice_index_or xs c.loop-upper.upper-index 0)) c.number_set_at-above.ensures (in_at xs c.loop-upper.upper-index 0 c.loop-upper-test.true)) in omega (arith, c.loop-upper.invariant.long)

pub mark-requires : goal.mark-requires
mark-requires c =
    let xs = c.number_set_at-above.result.now in
    let b = c.requires.covered _ (subst (In (slice_index_or xs c.loop-upper.upper-index 0)) c.number_set_at-above.ensures (in_at xs c.loop-upper.upper-index 0 c.loop-upper-test.true)) in omega (arith, c.loop-upper.invariant.covers_long)

pub loop-upper-preserved : goal.loop-upper-preserved
loop-upper-preserved c =
    let xs = c.number_set_at-above.result.now in
    let x = slice_index_or xs c.loop-upper.upper-index 0 in
    let i = subst (In x) c.number_set_at-above.ensures (in_at xs c.loop-upper.upper-index 0 c.loop-upper-test.true) in
    let b = c.requires.seen x i in
    let d = c.requires.covered x i in
    let l : x < length c.loop-upper.seen = omega (arith, c.loop-upper.invariant.long) in
    let m : x < length c.loop-upper.covered = omega (arith, c.loop-upper.invariant.covers_long) in
    let e : length xs ≡ length (row c.args.rows.now c.args.middle) = ap length c.number_set_at-above.ensures in
    let f : c.has_fewer-is_strict.result ≡ true → IsShorter c.args.rows.now x c.args.middle = λ t. let s = c.has_fewer-is_strict.ensures.0 t in omega arith in
    let g : IsShorter c.args.rows.now x c.args.middle → c.has_fewer-is_strict.result ≡ true = λ s. c.has_fewer-is_strict.ensures.1 (omega arith) in
    rw (take_more xs c.loop-upper.upper-index 0 c.loop-upper-test.true) (above_more _ x c.has_fewer-is_strict.result c.args.seen.now c.args.covered.now c.loop-upper.seen c.loop-upper.covered c.mark_if.new.marks c.mark.new.marks c.loop-upper.invariant l m f g c.mark_if.ensures c.mark.ensures)
