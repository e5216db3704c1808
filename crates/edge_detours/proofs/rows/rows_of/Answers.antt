use Rattle.std.proofs.Common.{arith, ◌≡◌, ◌<◌, sym, ap, subst, slice_index_or, length, length-set, ◌∙◌, ◌++◌, ◌∷◌, [], take}
use Rattle.std.proofs.lemmas.List.{take_more, length-take-le}
use Rattle.edge_detours.proofs.EdgeRows.{rows_more}
use Rattle.edge_detours.specs.inner.Rows.{AreRows}
use Rattle.fact_rows.proofs.Members.{in_at}
use Rattle.fact_rows.specs.Rows.{row}
use Rattle.edge_detours.proofs.rows.rows_of.Goals as goal

pub push_pair_at-requires : goal.push_pair_at-requires
push_pair_at-requires c =
    let x = slice_index_or c.args.edges.now c.loop-i.i (0, 0) in
    let p = c.requires.within x.0 x.1 (in_at c.args.edges.now c.loop-i.i (0, 0) c.loop-i-test.true) in
    omega (arith, p.0, c.loop-i.invariant.long)

pub loop-i-preserved : goal.loop-i-preserved
loop-i-preserved c =
    let x = slice_index_or c.args.edges.now c.loop-i.i (0, 0) in
    let p = c.requires.within x.0 x.1 (in_at c.args.edges.now c.loop-i.i (0, 0) c.loop-i-test.true) in
    let l : x.0 < length c.loop-i.rows.items = omega (arith, p.0, c.loop-i.invariant.long) in
    let n : c.loop-i.i ≡ length (take c.loop-i.i c.args.edges.now) = sym (length-take-le c.loop-i.i c.args.edges.now (let t = c.loop-i-test.true in omega arith)) in
    record {
      long = ap length c.in_ok-push_pair_at.ensures.pushes ∙ length-set c.loop-i.rows.items x.0 (row c.loop-i.rows.items x.0 ++ (x.1, c.loop-i.i) ∷ []) ∙ c.loop-i.invariant.long;
      rows = subst (λ es. AreRows es c.push_pair_at.new.rows.items) (sym (take_more c.args.edges.now c.loop-i.i (0, 0) c.loop-i-test.true))
          (rows_more (take c.loop-i.i c.args.edges.now) c.loop-i.rows.items c.push_pair_at.new.rows.items x.0 x.1 c.loop-i.i c.loop-i.invariant.rows n l c.in_ok-push_pair_at.ensures.pushes);
    }
