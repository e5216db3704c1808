use Rattle.std.proofs.Common.{◌∷◌, ◌++◌, [], codes, map}
use Rattle.owl_axioms.specs.Text.{iri_text, phrase, side_text, value_text}
use Rattle.owl_axioms.specs.inner.Joined.{end_two, opening}
use Rattle.owl_axioms.proofs.JoinedTexts.{phrase_two, then_end}
use Rattle.owl_axioms.proofs.axiom_phrases.of_ontology.Goals as goal

pub returns : goal.returns
returns c =
    then_end c.end_value.result c.end_value.new.out.items c.push_opening.new.out.items c.args.out.now.items (opening (codes "Annotation") (map side_text c.args.sides.now)) (end_two (iri_text c.args.property.now) (value_text c.args.value.now))
    (phrase (codes "Annotation") ((map side_text c.args.sides.now) ++ iri_text c.args.property.now ∷ value_text c.args.value.now ∷ [])) (phrase_two (codes "Annotation") (map side_text c.args.sides.now) (iri_text c.args.property.now) (value_text c.args.value.now)) c.in_ok-push_opening.ensures c.end_value.ensures
