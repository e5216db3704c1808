use Rattle.std.proofs.Common.{ap, ◌∙◌}
use Rattle.indexmap.specs.IndexSet.{insert_all}
use Rattle.owl_ontology.specs.Ontology.{axioms_of}
use Rattle.relax_axioms.specs.Implied.{same_body, wanted_by}
use Rattle.relax_axioms.proofs.Once.{inserted_next}
use Rattle.relax_axioms.proofs.implied.wanted.Goals as goal

pub loop-at-preserved : goal.loop-at-preserved
loop-at-preserved c =
    let one = c.get.result.now in
    c.in_ok-push_wanted.ensures
    ∙ ap (λ keys. insert_all same_body keys (wanted_by one.body)) c.loop-at.invariant
    ∙ inserted_next (axioms_of c.args.ontology.now.entries) c.loop-at.at one c.get.ensures.found
