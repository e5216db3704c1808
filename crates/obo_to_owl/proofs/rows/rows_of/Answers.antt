use Rattle.obo_to_owl.proofs.RowLemmas.{AreRead-more, AreRows-more}
use Rattle.obo_to_owl.proofs.rows.rows_of.Goals as goal

pub loop-at-preserved : goal.loop-at-preserved
loop-at-preserved c = record {
  clauses = AreRows-more c.args.placed.now c.loop-at.at c.loop-at.rows.items c.push.new.self.items c.row_at.result c.loop-at-test.true c.row_at.ensures.clause c.loop-at.invariant.clauses c.in_ok-push.ensures.items;
  read = AreRead-more c.args.space.now c.loop-at.rows.items c.push.new.self.items c.row_at.result c.loop-at.invariant.read c.row_at.ensures.iri c.in_ok-push.ensures.items;
}
