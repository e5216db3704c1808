use Rattle.std.proofs.Common.{◌==◌, ◌∙◌, sym, slice_index_or}
use Rattle.std.proofs.lemmas.List.{take_more}
use Rattle.std.proofs.lemmas.Bool.{eqb-true}
use Rattle.edge_detours.proofs.RootLemmas.{same_more}
use Rattle.edge_detours.proofs.ranks.reach_same.Goals as goal

pub loop-y-preserved : goal.loop-y-preserved
loop-y-preserved c =
    let x = slice_index_or c.args.targets.now c.loop-y.y-index (0, 0) in
    rw (take_more c.args.targets.now c.loop-y.y-index (0, 0) c.loop-y-test.true)
    (same_more _ x.0 x.1 c.args.ranks.now c.args.x c.args.flags.now c.loop-y.flags _ c.args.stack.now.items c.loop-y.stack.items _ (c.rank_of.result == c.rank_of-in-loop-y.result) c.loop-y.invariant
    (λ t. sym c.rank_of.ensures ∙ eqb-true c.rank_of.result c.rank_of-in-loop-y.result t ∙ c.rank_of-in-loop-y.ensures) c.in_ok-admit_if.ensures.on c.in_ok-admit_if.ensures.off)
