use Rattle.std.proofs.Common.{◌-◌, ap, length}
use Rattle.obo_to_owl.proofs.RowLemmas.{AreIris-more}
use Rattle.obo_to_owl.proofs.rows.iris_of.Goals as goal

pub loop-one-preserved : goal.loop-one-preserved
loop-one-preserved c = record {
  last = c.in_ok-push_iri.ensures.ends;
  iris = AreIris-more c.args.space.now c.args.placed.now c.loop-one.one-index c.one-item.result c.loop-one.texts.items c.push_iri.new.texts.items c.loop-one.places.items c.push.new.self.items _ c.loop-one-test.true c.one-item.is c.loop-one.invariant.iris c.in_ok-push_iri.ensures.begins c.in_ok-push_iri.ensures.ends (ap (λ xs. length xs - 1) c.as_slice.ensures.value) c.in_ok-push.ensures.items;
}
