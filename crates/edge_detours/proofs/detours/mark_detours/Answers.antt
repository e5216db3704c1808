use Rattle.std.proofs.Common.{arith, ◌≡◌, ◌∷◌, ◌++◌, []}
use Rattle.edge_detours.proofs.DetourLemmas.{going_next, marks, marks_over, begun_kept}
use Rattle.edge_detours.specs.inner.Detours.{IsGoing, Pushes}
use Rattle.fact_rows.proofs.Members.{no_items}
use Rattle.fact_rows.specs.Rows.{row}
use Rattle.edge_detours.proofs.detours.mark_detours.Goals as goal

pub loop-x-preserved : goal.loop-x-preserved
loop-x-preserved c =
    let rows = c.args.rows.now in
    let k = c.args.start in
    let high = c.greatest-high.result in
    let p : Pushes (row rows c.in-Some.x) c.in-Some.x high k c.loop-x.marks c.push_unmarked.new.marks c.pop.new.self.items c.push_unmarked.new.stack.items = rw c.pairs_at.ensures at c.in_ok-push_unmarked.ensures in
    let g : IsGoing rows k high c.args.marks.now c.loop-x.marks (c.pop.new.self.items ++ c.in-Some.x ∷ []) = rw c.in-Some.ensures.items at c.loop-x.invariant.going in
    record {
      going = going_next rows k high c.in-Some.x g p;
      begun = begun_kept rows k high (row rows k) c.loop-x.marks c.push_unmarked.new.marks p.kept c.loop-x.invariant.begun;
    }

pub returns : goal.returns
returns c =
    let none : c.loop-x.stack.items ≡ [] = no_items c.loop-x.stack.items (let l = c.in_default.ensures.cases.0 in omega arith) in
    marks c.args.rows.now c.args.start c.greatest-high.result c.requires.rising c.args.marks.now c.loop-x.marks (rw c.pairs_at-targets.ensures at c.greatest-high.ensures) c.loop-x.invariant.begun (rw none at c.loop-x.invariant.going)

pub returns-then-all_marked : goal.returns-then-all_marked
returns-then-all_marked c =
    let e = c.pairs_at-targets.ensures in
    marks_over c.args.rows.now c.args.start c.greatest-high.result c.requires.rising c.least_above-low.result c.args.marks.now c.begin.new.marks c.begin.new.stack.items (rw e at c.least_above-low.ensures) (rw e at (c.all_marked.ensures c.if-all_marked.true)) c.in_ok-begin.ensures.going

pub returns-then-is_over : goal.returns-then-is_over
returns-then-is_over c =
    let rows = c.args.rows.now in
    let k = c.args.start in
    let high = c.greatest-high.result in
    let e = c.pairs_at-targets.ensures in
    let p : Pushes (row rows c.in-Some.x) c.in-Some.x high k c.loop-x.marks c.push_unmarked.new.marks c.pop.new.self.items c.push_unmarked.new.stack.items = rw c.pairs_at.ensures at c.in_ok-push_unmarked.ensures in
    let g : IsGoing rows k high c.args.marks.now c.loop-x.marks (c.pop.new.self.items ++ c.in-Some.x ∷ []) = rw c.in-Some.ensures.items at c.loop-x.invariant.going in
    marks_over rows k high c.requires.rising c.least_above-low.result c.args.marks.now c.push_unmarked.new.marks c.push_unmarked.new.stack.items (rw e at c.least_above-low.ensures) (rw e at (c.is_over.ensures c.if-is_over.true)) (going_next rows k high c.in-Some.x g p)
