use Rattle.release_report.specs.EntryText.{dropped_text}
use Rattle.release_report.proofs.Adding.{added_next}
use Rattle.release_report.proofs.report.add_all_dropped.Goals as goal

pub loop-clause-preserved : goal.loop-clause-preserved
loop-clause-preserved c =
    added_next (dropped_text c.args.name.now) c.args.dropped.now c.loop-clause.clause-index c.clause-item.result c.clause-item.result c.args.text.items c.loop-clause.text.items c.in_ok-text.text.items c.loop-clause-test.true c.clause-item.is c.loop-clause.invariant c.in_ok-text.ensures
