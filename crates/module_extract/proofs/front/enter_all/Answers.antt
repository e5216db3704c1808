use Rattle.std.proofs.Common.{◌∙◌}
use Rattle.owl_axioms.proofs.Adding.{get_from_read}
use Rattle.owl_axioms.specs.Names.{body_names}
use Rattle.module_extract.proofs.Fronts.{entered_all, entered_next, entered_none}
use Rattle.module_extract.proofs.front.enter_all.Goals as goal

pub names-init : goal.names-init
names-init g c = record { front = c.requires; entered = entered_none c.args.setting.now.table c.args.front.now }

pub names-preserved : goal.names-preserved
names-preserved g c =
    let ns = c.as_slice-name-items.result.now in
    let at = get_from_read ns c.names.name-index c.name-item.result c.names-test.true c.name-item.is in
    record {
      front = c.in_ok-enter.ensures.front;
      entered = entered_next c.args.setting.now.table ns c.names.name-index c.name-item.result c.args.front.now c.names.front c.enter.new.self at c.names.invariant.entered c.in_ok-enter.ensures.entered;
    }

pub returns-clause-entered : goal.returns-clause-entered
returns-clause-entered g c =
    entered_all c.args.setting.now.table c.as_slice-name-items.result.now (body_names c.args.body.now) c.names.name-index c.args.front.now c.names.front c.names-test.false (c.as_slice-name-items.ensures.value ∙ c.in_ok-names.ensures) c.names.invariant.entered
