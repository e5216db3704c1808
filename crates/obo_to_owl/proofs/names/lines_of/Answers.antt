use Rattle.obo_to_owl.specs.inner.Spacing.{line_for, line_in}
use Rattle.obo_to_owl.proofs.SpaceLemmas.{line_next}
use Rattle.obo_to_owl.proofs.names.lines_of.Goals as goal

pub loop-row-preserved : goal.loop-row-preserved
loop-row-preserved c = λ x.
    line_next (line_for c.args.situation.now x) c.args.rows.now c.loop-row.row-index c.row-item.result (line_in c.loop-row.lines x) (line_in c.keep_line.new.lines x) c.loop-row-test.true c.row-item.is (c.loop-row.invariant x) (c.in_ok-keep_line.ensures x)
