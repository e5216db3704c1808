use Rattle.std.proofs.Common.{ap, subst, ◌∙◌}
use Rattle.std.specs.List.{filter_map, flat_map}
use Rattle.std.specs.Option.{option_to_list}
use Rattle.owl_ontology.specs.Ontology.{axioms_of}
use Rattle.obo_frames.specs.Naming.{least_text}
use Rattle.obo_mapping.specs.Documents.{default_in}
use Rattle.obo_to_owl.specs.inner.Adding.{AreAdded}
use Rattle.obo_to_owl.specs.inner.Spacing.{spaces_with}
use Rattle.obo_to_owl.proofs.spacing.add_spaces.Goals as goal

pub returns : goal.returns
returns c =
    let axioms = axioms_of c.args.ontology.now.entries in
    subst (λ o. AreAdded c.args.ontology.now c.add_default.new.ontology (flat_map (spaces_with c.args.file c.args.situation.now c.args.rows.now c.args.left.now axioms) (option_to_list o)))
    (c.in_ok-space.ensures ∙ ap (λ kept. least_text kept (filter_map default_in axioms)) c.in_ok-kept.ensures)
    c.in_ok-add_default.ensures
