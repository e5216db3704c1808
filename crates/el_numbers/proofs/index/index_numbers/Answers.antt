use Rattle.std.proofs.Common.{◌<◌, ◌∙◌, ◌++◌, ◌∷◌, [], sym, subst, ap, arith, length, length-set, slice_index_or}
use Rattle.std.proofs.lemmas.List.{take_more}
use Rattle.fact_rows.specs.Rows.{row}
use Rattle.fact_rows.proofs.Members.{in_at}
use Rattle.el_numbers.specs.inner.Indexes.{IsIndexOf}
use Rattle.el_numbers.proofs.IndexLemmas.{index_more}
use Rattle.el_numbers.proofs.index.index_numbers.Goals as goal

pub push_number_at-requires : goal.push_number_at-requires
push_number_at-requires c =
    let x = slice_index_or c.args.pairs.now c.loop-key.key-index (0, 0) in
    let l = c.requires x.0 x.1 (in_at c.args.pairs.now c.loop-key.key-index (0, 0) c.loop-key-test.true) in
    omega (arith, l, c.loop-key.invariant.long)

pub loop-key-preserved : goal.loop-key-preserved
loop-key-preserved c =
    let x = slice_index_or c.args.pairs.now c.loop-key.key-index (0, 0) in
    let l = c.requires x.0 x.1 (in_at c.args.pairs.now c.loop-key.key-index (0, 0) c.loop-key-test.true) in
    let m : x.0 < length c.loop-key.rows.items = omega (arith, l, c.loop-key.invariant.long) in
    record {
      long = ap length c.in_ok-push_number_at.ensures.pushes ∙ length-set c.loop-key.rows.items x.0 (row c.loop-key.rows.items x.0 ++ x.1 ∷ []) ∙ c.loop-key.invariant.long;
      index = subst (λ ps. IsIndexOf ps c.push_number_at.new.rows.items) (sym (take_more c.args.pairs.now c.loop-key.key-index (0, 0) c.loop-key-test.true))
          (index_more _ c.loop-key.rows.items c.push_number_at.new.rows.items x.0 x.1 m c.in_ok-push_number_at.ensures.pushes c.loop-key.invariant.index);
    }
