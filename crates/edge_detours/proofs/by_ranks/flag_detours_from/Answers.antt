use Rattle.edge_detours.proofs.RankLemmas.{turns}
use Rattle.edge_detours.specs.inner.Flags.{Flags}
use Rattle.fact_rows.specs.Rows.{row}
use Rattle.edge_detours.proofs.by_ranks.flag_detours_from.Goals as goal

pub returns : goal.returns
returns c =
    let e = c.pairs_at-targets.ensures in
    let f : Flags (row c.args.rows.now c.args.start) c.args.start c.mark_detours.new.marks c.args.flags.now c.flag_marked.new.flags = rw e at c.flag_marked.ensures in
    turns c.in_ok-mark_detours.ensures f
