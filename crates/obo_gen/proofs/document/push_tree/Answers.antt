use Rattle.std.proofs.Common.{◌++◌, ap, arith, sym, ◌∙◌, append_assoc}
use Rattle.std.specs.List.{flat_map, range_with_len}
use Rattle.obo_gen.specs.Generated as spec
use Rattle.obo_gen.proofs.Ranges.{flat_map-range_more}
use Rattle.obo_gen.proofs.document.push_tree.Goals as goal

pub loop-number-preserved : goal.loop-number-preserved
loop-number-preserved c =
    let n = c.loop-number.number in
    let before = c.args.out.now.items in
    c.in_ok-push_tree_term.ensures
    ∙ ap (λ xs. xs ++ spec.tree_term n) c.loop-number.invariant
    ∙ append_assoc before (flat_map spec.tree_term (range_with_len 0 n)) (spec.tree_term n)
    ∙ ap (λ xs. before ++ xs) (sym (flat_map-range_more spec.tree_term 0 n n (omega arith)))
