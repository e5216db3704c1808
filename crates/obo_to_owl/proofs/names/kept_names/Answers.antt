use Rattle.std.proofs.Common.{false}
use Rattle.obo_to_owl.specs.inner.Spacing.{has_name, name_kept}
use Rattle.obo_to_owl.proofs.SpaceLemmas.{named_next}
use Rattle.obo_to_owl.proofs.names.kept_names.Goals as goal

pub loop-row-preserved : goal.loop-row-preserved
loop-row-preserved c = λ x.
    named_next (name_kept c.args.situation.now) c.args.left.now c.loop-row.row-index c.row-item.result x false (has_name c.loop-row.names x) (has_name c.keep_name.new.names x) c.loop-row-test.true c.row-item.is (c.loop-row.invariant x) (c.in_ok-keep_name.ensures x)
