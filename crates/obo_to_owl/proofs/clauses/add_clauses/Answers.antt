use Rattle.obo_to_owl.specs.inner.Adding.{entries_said}
use Rattle.obo_to_owl.proofs.AddLemmas.{AreAdded-more, In-at}
use Rattle.obo_to_owl.proofs.clauses.add_clauses.Goals as goal

pub add_clause-requires : goal.add_clause-requires
add_clause-requires c = λ said is. c.requires c.row-item.result said (In-at c.args.rows.now c.loop-row.row-index c.row-item.result c.loop-row-test.true c.row-item.is) is

pub loop-row-preserved : goal.loop-row-preserved
loop-row-preserved c =
    AreAdded-more (entries_said c.args.space.now c.args.file c.args.situation.now) c.args.rows.now c.loop-row.row-index c.row-item.result c.args.ontology.now c.loop-row.ontology c.add_clause.new.ontology c.loop-row-test.true c.row-item.is c.loop-row.invariant c.in_ok-add_clause.ensures
