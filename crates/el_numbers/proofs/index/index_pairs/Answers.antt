use Rattle.std.proofs.Common.{◌<◌, ◌∙◌, ◌++◌, ◌∷◌, [], sym, subst, ap, arith, length, length-set, slice_index_or}
use Rattle.std.proofs.lemmas.List.{take_more}
use Rattle.fact_rows.specs.Rows.{row}
use Rattle.fact_rows.proofs.Members.{in_at}
use Rattle.el_numbers.specs.inner.Indexes.{IsPairIndexOf}
use Rattle.el_numbers.proofs.IndexLemmas.{pair_index_more}
use Rattle.el_numbers.proofs.index.index_pairs.Goals as goal

pub push_pair_at-requires : goal.push_pair_at-requires
push_pair_at-requires c =
    let x = slice_index_or c.args.triples.now c.loop-key.key-index (0, 0, 0) in
    let l = c.requires x.0 x.1 x.2 (in_at c.args.triples.now c.loop-key.key-index (0, 0, 0) c.loop-key-test.true) in
    omega (arith, l, c.loop-key.invariant.long)

pub loop-key-preserved : goal.loop-key-preserved
loop-key-preserved c =
    let x = slice_index_or c.args.triples.now c.loop-key.key-index (0, 0, 0) in
    let l = c.requires x.0 x.1 x.2 (in_at c.args.triples.now c.loop-key.key-index (0, 0, 0) c.loop-key-test.true) in
    let m : x.0 < length c.loop-key.rows.items = omega (arith, l, c.loop-key.invariant.long) in
    record {
      long = ap length c.in_ok-push_pair_at.ensures.pushes ∙ length-set c.loop-key.rows.items x.0 (row c.loop-key.rows.items x.0 ++ (x.1, x.2) ∷ []) ∙ c.loop-key.invariant.long;
      index = subst (λ ps. IsPairIndexOf ps c.push_pair_at.new.rows.items) (sym (take_more c.args.triples.now c.loop-key.key-index (0, 0, 0) c.loop-key-test.true))
          (pair_index_more _ c.loop-key.rows.items c.push_pair_at.new.rows.items x.0 x.1 x.2 m c.in_ok-push_pair_at.ensures.pushes c.loop-key.invariant.index);
    }
