use Rattle.std.proofs.Common.{◌+◌, ap, drop, map, sym, ◌∙◌}
use Rattle.obo_frames.proofs.ListLemmas.{left_is}
use Rattle.import_closure.specs.List.{listed, with_all_new, with_new}
use Rattle.import_closure.specs.declared.list.Asker.TheVariants.{Input}
use Rattle.import_closure.specs.inner.Listing.{listed_in}
use Rattle.import_closure.proofs.list.listed_inputs.Goals as goal

pub loop-input-preserved : goal.loop-input-preserved
loop-input-preserved c =
    let inputs = c.args.inputs.now in
    let at = c.loop-input.input-index in
    let list = listed_in c.loop-input.list.entries in
    let later = map (λ name. listed name Input) (drop (at + 1) inputs) in
    ap (λ more. with_all_new more later) (c.in_ok-add_file.ensures ∙ ap (λ name. with_new list (listed name Input)) c.in_ok-name.ensures)
    ∙ (ap (λ left. with_all_new list (map (λ name. listed name Input) left)) (sym (left_is inputs at c.input-item.result c.loop-input-test.true c.input-item.is)) ∙ c.loop-input.invariant)
