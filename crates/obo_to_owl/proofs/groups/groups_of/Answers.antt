use Rattle.obo_statements.specs.Groups.{group_meant}
use Rattle.obo_to_owl.specs.inner.Grouping.{group_in}
use Rattle.obo_to_owl.proofs.GroupLemmas.{gathered_next}
use Rattle.obo_to_owl.proofs.groups.groups_of.Goals as goal

pub loop-row-preserved : goal.loop-row-preserved
loop-row-preserved c = record {
  members = λ x. gathered_next (group_meant c.args.group) c.args.rows.now c.loop-row.row-index c.row-item.result x (group_in c.loop-row.groups x) (group_in c.keep.new.groups x) c.loop-row-test.true c.row-item.is (c.loop-row.invariant.members x) (c.in_ok-keep.ensures.members x);
  unique = c.in_ok-keep.ensures.unique;
}
