use Rattle.std.proofs.Common.{◌||◌, ap, not, subst, ◌∙◌}
use Rattle.std.specs.List.{filter_map, list_any}
use Rattle.owl_ontology.specs.Ontology.{axioms_of}
use Rattle.obo_mapping.specs.Documents.{is_namespace}
use Rattle.obo_to_owl.specs.inner.Adding.{AreAdded}
use Rattle.obo_to_owl.specs.inner.Spacing.{has_name, name_eq}
use Rattle.obo_to_owl.proofs.SpacedLemmas.{spaces_are, spacing_proper}
use Rattle.obo_to_owl.proofs.spacing.add_space.Goals as goal

pub add_each-requires : goal.add_each-requires
add_each-requires c =
    let axioms = axioms_of c.args.ontology.now.entries in
    λ name here. spacing_proper axioms (λ name. not (has_name c.in_ok-spaced.spaced name)) c.as_slice.result.now (c.as_slice.ensures.value ∙ c.in_ok-names.ensures.names) c.in_ok-names.ensures.proper name c.args.space.now here

pub returns : goal.returns
returns c =
    let axioms = axioms_of c.args.ontology.now.entries in
    subst (AreAdded c.args.ontology.now c.add_each.new.ontology)
    (spaces_are c.args.file c.args.situation.now c.args.rows.now c.args.left.now axioms c.args.space.now c.in_ok-spaced.spaced c.in_ok-lines.lines c.as_slice.result.now
    (λ x. c.in_ok-spaced.ensures x ∙ ap (λ b. b || list_any (name_eq x) (filter_map is_namespace axioms)) (c.in_ok-kept.ensures x)) (c.as_slice.ensures.value ∙ c.in_ok-names.ensures.names) c.in_ok-lines.ensures)
    c.in_ok-add_each.ensures
