use Rattle.std.proofs.Common.{◌+◌, ap, drop, sym, ◌∙◌}
use Rattle.std.specs.BTreeMap.{get}
use Rattle.text_sets.specs.Sorted.{text_cmp}
use Rattle.obo_frames.proofs.ListLemmas.{left_is}
use Rattle.obo_text.specs.inner.Rows.{held_from}
use Rattle.obo_text.proofs.names.names_of.Goals as goal

pub loop-row-preserved : goal.loop-row-preserved
loop-row-preserved c id =
    let rows = c.args.rows.now in
    let at = c.loop-row.row-index in
    ap (λ held. held_from id held (drop (at + 1) rows)) (c.in_ok-add_row.ensures id)
    ∙ ap (held_from id (get text_cmp c.loop-row.names id)) (sym (left_is rows at c.row-item.result c.loop-row-test.true c.row-item.is))
    ∙ c.loop-row.invariant id
