use Rattle.std.proofs.Common.{◌+◌, ap, drop, sym, ◌∙◌}
use Rattle.std.specs.List.{filter_map}
use Rattle.obo_frames.proofs.ListLemmas.{left_is}
use Rattle.import_closure.specs.Imports.{asked_in}
use Rattle.import_closure.specs.List.{with_all_new}
use Rattle.import_closure.specs.inner.Listing.{listed_in}
use Rattle.import_closure.proofs.ListLemmas.{with-option}
use Rattle.import_closure.proofs.list.add_clauses.Goals as goal

pub loop-one-preserved : goal.loop-one-preserved
loop-one-preserved c catalog tells =
    let placed = c.args.placed.now in
    let at = c.loop-one.one-index in
    let asked = asked_in catalog c.args.file.now in
    let list = listed_in c.loop-one.list.entries in
    let later = filter_map asked (drop (at + 1) placed) in
    ap (λ more. with_all_new more later) (c.in_ok-add_import.ensures catalog tells)
    ∙ (sym (with-option list (asked c.one-item.result) later)
    ∙ (ap (λ left. with_all_new list (filter_map asked left)) (sym (left_is placed at c.one-item.result c.loop-one-test.true c.one-item.is)) ∙ c.loop-one.invariant catalog tells))
