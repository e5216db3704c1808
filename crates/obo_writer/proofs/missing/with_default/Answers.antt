use Rattle.std.proofs.Common.{◌∙◌, ap}
use Rattle.std.proofs.lemmas.Result.{IfOk-weaker}
use Rattle.iri_map.specs.Ontology.{name_or_temp}
use Rattle.owl_ontology.specs.Ontology.{axioms_of}
use Rattle.obo_writer.proofs.MissingLemmas.{spaced_by}
use Rattle.obo_writer.proofs.missing.with_default.Goals as goal

pub returns : goal.returns
returns c =
    IfOk-weaker c.all_spaced.result _ _ (λ made is. is ∙ spaced_by c.args.ontology.now.name (axioms_of c.args.ontology.now.entries) c.args.space.now c.in_ok-place.place c.in_ok-declared.declared c.in_ok-spaced.spaced c.as_slice.result.now
    (c.in_ok-place.ensures ∙ ap name_or_temp c.name.ensures) c.in_ok-declared.ensures c.in_ok-spaced.ensures (c.as_slice.ensures.value ∙ c.in_ok-names.ensures)) c.all_spaced.ensures
