use Rattle.std.proofs.Common.{◌∙◌}
use Rattle.owl_axioms.proofs.Adding.{get_from_read}
use Rattle.owl_axioms.specs.Names.{body_names}
use Rattle.module_extract.proofs.Telling.{told_all, told_next, told_none}
use Rattle.module_extract.proofs.setting.tell.Goals as goal

pub names-init : goal.names-init
names-init c = told_none c.args.table.now c.args.at c.in_ok-seen.seen c.in_ok-seen.ensures

pub names-preserved : goal.names-preserved
names-preserved c =
    let ns = c.as_slice-name-items.result.now in
    let at = get_from_read ns c.names.name-index c.name-item.result c.names-test.true c.name-item.is in
    told_next c.args.table.now ns c.names.name-index c.args.at c.names.seen c.names.table c.name-item.result c.tell_one.new.seen c.tell_one.new.table c.names.invariant at c.in_ok-tell_one.ensures

pub returns : goal.returns
returns c = told_all c.args.table.now c.as_slice-name-items.result.now (body_names c.args.one.now.body) c.names.name-index c.args.at c.names.seen c.names.table c.names-test.false (c.as_slice-name-items.ensures.value ∙ c.in_ok-names.ensures) c.names.invariant
