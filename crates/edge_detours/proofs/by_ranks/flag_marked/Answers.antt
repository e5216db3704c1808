use Rattle.std.proofs.Common.{arith, slice_index_or}
use Rattle.std.proofs.lemmas.List.{take_more}
use Rattle.edge_detours.proofs.RankLemmas.{flags_more}
use Rattle.fact_rows.proofs.Members.{in_at}
use Rattle.edge_detours.proofs.by_ranks.flag_marked.Goals as goal

pub flag_if-requires : goal.flag_if-requires
flag_if-requires c =
    let x = slice_index_or c.args.targets.now c.loop-c.c-index (0, 0) in
    let b = c.requires x.0 x.1 (in_at c.args.targets.now c.loop-c.c-index (0, 0) c.loop-c-test.true) in omega (arith, c.loop-c.invariant.long)

pub loop-c-preserved : goal.loop-c-preserved
loop-c-preserved c =
    let x = slice_index_or c.args.targets.now c.loop-c.c-index (0, 0) in
    let b = c.requires x.0 x.1 (in_at c.args.targets.now c.loop-c.c-index (0, 0) c.loop-c-test.true) in
    rw (take_more c.args.targets.now c.loop-c.c-index (0, 0) c.loop-c-test.true)
    (flags_more _ x.0 x.1 c.args.start c.args.marks.now c.args.flags.now c.loop-c.flags _ c.is_marked-is_wanted.result b c.loop-c.invariant
    (λ t. c.is_marked-is_wanted.ensures.0 t) (λ m. c.is_marked-is_wanted.ensures.1 m) c.flag_if.ensures)
