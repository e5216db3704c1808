use Rattle.std.proofs.Common.{◌≡◌, ◌+◌, ◌-◌, ◌++◌, ap, sym, arith, ◌∙◌, append_assoc}
use Rattle.std.specs.List.{flat_map, range_with_len}
use Rattle.obo_gen.specs.Seed as spec
use Rattle.obo_gen.proofs.Ranges.{flat_map-range_more}
use Rattle.obo_gen.proofs.seed.push_groups.Goals as goal

pub loop-k-preserved : goal.loop-k-preserved
loop-k-preserved c =
    let k = c.loop-k.k in
    let before = c.args.out.now.items in
    let from_one = c.loop-k.invariant.1 in
    let on : 1 + (k - 1) ≡ k = omega arith in
    let one_more : k + 1 - 1 ≡ (k - 1) + 1 = omega arith in (
      c.in_ok-push_group.ensures
          ∙ ap (λ xs. xs ++ spec.seed_of_group k) c.loop-k.invariant.0
          ∙ append_assoc before (flat_map spec.seed_of_group (range_with_len 1 (k - 1))) (spec.seed_of_group k)
          ∙ ap (λ xs. before ++ xs) (sym (flat_map-range_more spec.seed_of_group 1 (k - 1) k on))
          ∙ ap (λ j. before ++ flat_map spec.seed_of_group (range_with_len 1 j)) (sym one_more),
      omega arith,
    )
