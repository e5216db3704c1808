use Rattle.std.proofs.Common.{◌∷◌, ◌++◌, [], codes, map}
use Rattle.owl_axioms.specs.Text.{iri_text, phrase, side_text}
use Rattle.owl_axioms.specs.inner.Joined.{end_three, opening}
use Rattle.owl_axioms.proofs.JoinedTexts.{phrase_three, then_end}
use Rattle.owl_axioms.proofs.axiom_phrases.of_related.Goals as goal

pub returns : goal.returns
returns c =
    then_end c.end_related.result c.end_related.new.out.items c.push_opening.new.out.items c.args.out.now.items (opening (codes "ObjectPropertyAssertion") (map side_text c.args.sides.now)) (end_three (iri_text c.args.role.now) (iri_text c.args.from.now) (iri_text c.args.to.now))
    (phrase (codes "ObjectPropertyAssertion") ((map side_text c.args.sides.now) ++ iri_text c.args.role.now ∷ iri_text c.args.from.now ∷ iri_text c.args.to.now ∷ [])) (phrase_three (codes "ObjectPropertyAssertion") (map side_text c.args.sides.now) (iri_text c.args.role.now) (iri_text c.args.from.now) (iri_text c.args.to.now)) c.in_ok-push_opening.ensures c.end_related.ensures
