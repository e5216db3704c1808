use Rattle.std.proofs.Common.{sym, subst}
use Rattle.direct_above.proofs.MarkingLemmas.{candidates_moved}
use Rattle.direct_above.proofs.WritingLemmas.{writes_direct}
use Rattle.direct_above.specs.inner.Edges.{Writes}
use Rattle.direct_above.specs.inner.Marks.{AreCandidates, MarksAll}
use Rattle.fact_rows.specs.Rows.{row}
use Rattle.direct_above.proofs.direct.write_direct.Goals as goal

pub returns : goal.returns
returns c =
    let rows = c.args.rows.now in
    let a = c.args.lower in
    let order = c.as_slice.result.now in
    let moved : AreCandidates rows c.args.classes.now a c.sort_unstable.new.self.items = candidates_moved c.in_ok-order.order.items c.sort_unstable.new.self.items c.sort_unstable.ensures.permutation c.in_ok-order.ensures in
    let are : AreCandidates rows c.args.classes.now a order = subst (AreCandidates rows c.args.classes.now a) (sym c.as_slice.ensures.value) moved in
    let m : MarksAll a (row c.args.told.now a) c.mark_between.new.seen c.mark_all.new.marks = rw c.numbers_at.ensures at c.mark_all.ensures in
    let w : Writes c.args.classes.now c.mark_all.new.marks a (row rows a) c.args.out.now.items c.write_picked.new.out.items = rw c.number_set_at.ensures at c.in_ok-write_picked.ensures in
    writes_direct rows c.args.told.now c.requires.order c.args.classes.now a order are c.args.out.now.items c.write_picked.new.out.items c.args.seen.now c.args.covered.now c.mark_between.new.seen c.mark_between.new.covered c.mark_all.new.marks c.mark_between.ensures m w
