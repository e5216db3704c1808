use Rattle.std.proofs.Common.{◌∷◌, ◌++◌, [], codes, map}
use Rattle.owl_axioms.specs.Text.{iri_text, phrase, side_text, value_text}
use Rattle.owl_axioms.specs.inner.Joined.{end_three, opening}
use Rattle.owl_axioms.proofs.JoinedTexts.{phrase_three, then_end}
use Rattle.owl_axioms.proofs.axiom_phrases.of_note.Goals as goal

pub returns : goal.returns
returns c =
    then_end c.end_note.result c.end_note.new.out.items c.push_opening.new.out.items c.args.out.now.items (opening (codes "AnnotationAssertion") (map side_text c.args.sides.now)) (end_three (iri_text c.args.property.now) (iri_text c.args.subject.now) (value_text c.args.value.now))
    (phrase (codes "AnnotationAssertion") ((map side_text c.args.sides.now) ++ iri_text c.args.property.now ∷ iri_text c.args.subject.now ∷ value_text c.args.value.now ∷ [])) (phrase_three (codes "AnnotationAssertion") (map side_text c.args.sides.now) (iri_text c.args.property.now) (iri_text c.args.subject.now) (value_text c.args.value.now)) c.in_ok-push_opening.ensures c.end_note.ensures
