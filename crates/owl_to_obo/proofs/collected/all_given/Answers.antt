use Rattle.std.proofs.Common.{◌≤◌, ap, arith, length, map, ◌∙◌}
use Rattle.std.proofs.lemmas.List.{take_all}
use Rattle.owl_ontology.specs.Ontology.{entry_of}
use Rattle.obo_notes.specs.Context.{writing_in}
use Rattle.owl_to_obo.specs.Clashes.{given_meant}
use Rattle.owl_to_obo.specs.inner.Collected.{all_given, given_by}
use Rattle.owl_to_obo.proofs.CollectLemmas.{entry_at, given_more}
use Rattle.owl_to_obo.proofs.collected.all_given.Goals as goal

pub loop-at-preserved : goal.loop-at-preserved
loop-at-preserved c =
    let entries = c.args.ontology.now.entries in
    given_more (given_by (writing_in c.args.space.now) c.args.declared.now c.args.check) entries c.loop-at.at (entry_of c.get.result.now c.origin.result) (map given_meant c.loop-at.all.items) (map given_meant c.push_given.new.all.items)
    (entry_at entries c.loop-at.at c.get.result.now c.origin.result c.get.ensures.found c.origin.ensures) c.loop-at.invariant c.in_ok-push_given.ensures

pub returns : goal.returns
returns c =
    let ended : length c.args.ontology.now.entries ≤ c.loop-at.at = omega (arith, c.loop-at-test.false, c.len-at-end.ensures.len) in
    c.loop-at.invariant ∙ ap (all_given (writing_in c.args.space.now) c.args.declared.now c.args.check) (take_all c.loop-at.at c.args.ontology.now.entries ended)
