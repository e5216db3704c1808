use Rattle.std.proofs.Common.{[], ◌∷◌}
use Rattle.obo_to_owl.specs.inner.Spacing.{entry_spaced}
use Rattle.obo_to_owl.proofs.AddLemmas.{AreAdded-more, In-at}
use Rattle.obo_to_owl.proofs.names.add_each.Goals as goal

pub add_one-requires : goal.add_one-requires
add_one-requires c = c.requires c.name-item.result (In-at c.args.names.now c.loop-name.name-index c.name-item.result c.loop-name-test.true c.name-item.is)

pub loop-name-preserved : goal.loop-name-preserved
loop-name-preserved c =
    AreAdded-more (λ name. entry_spaced c.args.file c.args.space.now c.args.lines.now name ∷ []) c.args.names.now c.loop-name.name-index c.name-item.result c.args.ontology.now c.loop-name.ontology c.add_one.new.ontology c.loop-name-test.true c.name-item.is c.loop-name.invariant c.in_ok-add_one.ensures
