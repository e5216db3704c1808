use Rattle.std.proofs.Common.{arith, ◌+◌, inl, inr, sym, subst, slice_index_or, ◌∙◌}
use Rattle.std.proofs.lemmas.List.{take_more, take_all}
use Rattle.edge_detours.proofs.DetourLemmas.{begun_more, going_first}
use Rattle.edge_detours.specs.inner.Detours.{AreBegun, Pushes}
use Rattle.fact_rows.proofs.Members.{in_at, in_permuted, in_unpermuted}
use Rattle.fact_rows.specs.Member.{In}
use Rattle.fact_rows.specs.Rows.{row}
use Rattle.edge_detours.proofs.detours.begin.Goals as goal
use Rattle.edge_detours.proofs.detours.begin.Goals.{then-wants+in_ok-push_unmarked, else-wants}

pub loop-d-preserved : goal.loop-d-preserved
loop-d-preserved c =
    let ts = c.as_slice-firsts.result.now in
    let x = slice_index_or ts c.loop-d.d-index (0, 0) in
    let rows = c.args.rows.now in
    let k = c.args.start in
    let high = c.args.high in
    let inside : In x (row rows k) = subst (In x) (c.in_ok-order.ensures.items ∙ c.pairs_at.ensures)
    (in_unpermuted c.in_ok-order.order.items c.sort_unstable.new.self.items c.sort_unstable.ensures.permutation x (subst (In x) c.as_slice-firsts.ensures.value (in_at ts c.loop-d.d-index (0, 0) c.loop-d-test.true))) in
    let more = take_more ts c.loop-d.d-index (0, 0) c.loop-d-test.true in
    elim c.if-wants.branch [
      | then-wants+in_ok-push_unmarked w ↦
          let p : Pushes (row rows x.0) (x.0 + 1) high k c.loop-d.marks w.push_unmarked.new.marks c.loop-d.stack.items w.push_unmarked.new.stack.items = rw w.pairs_at-then-wants.ensures at w.in_ok-push_unmarked.ensures in
          rw (w.marks-is, w.stack-is, more) (record {
            going = going_first rows k high x.0 x.1 inside (c.wants.ensures.on w.if-wants.true).0 c.loop-d.invariant.going p;
            begun = begun_more rows k high _ x c.loop-d.marks _ c.loop-d.invariant.begun p.kept (λ u t. inr (λ e j o l r. p.each e j o (let q = l in omega arith) r));
          })
      | else-wants w ↦
          rw (w.marks-is, w.stack-is, more) (record {
            going = c.loop-d.invariant.going;
            begun = begun_more rows k high _ x c.loop-d.marks _ c.loop-d.invariant.begun (λ y h. h) (λ u t. inl (c.wants.ensures.off w.if-wants.false u t));
          })
    ]

pub returns-clause-begun : goal.returns-clause-begun
returns-clause-begun c =
    let b : AreBegun c.args.rows.now c.args.start c.args.high c.as_slice-firsts.result.now c.loop-d.marks = rw (take_all c.loop-d.d-index c.as_slice-firsts.result.now (let t = c.loop-d-test.false in omega arith)) at c.loop-d.invariant.begun in
    λ d i m. b d i (subst (In (d, i)) (sym c.as_slice-firsts.ensures.value)
    (in_permuted c.in_ok-order.order.items c.sort_unstable.new.self.items c.sort_unstable.ensures.permutation (d, i) (subst (In (d, i)) (sym (c.in_ok-order.ensures.items ∙ c.pairs_at.ensures)) m)))
