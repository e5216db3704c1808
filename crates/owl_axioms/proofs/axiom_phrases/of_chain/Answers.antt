use Rattle.std.proofs.Common.{◌∷◌, ◌++◌, [], codes, map}
use Rattle.owl_axioms.specs.Text.{iri_text, phrase, side_text}
use Rattle.owl_axioms.specs.inner.Joined.{end_two, opening}
use Rattle.owl_axioms.proofs.JoinedTexts.{phrase_two, then_end}
use Rattle.owl_axioms.proofs.axiom_phrases.of_chain.Goals as goal

pub returns : goal.returns
returns c =
    then_end c.end_chain.result c.end_chain.new.out.items c.push_opening.new.out.items c.args.out.now.items (opening (codes "SubObjectPropertyOf") (map side_text c.args.sides.now)) (end_two (phrase (codes "ObjectPropertyChain") (iri_text c.args.first.now ∷ iri_text c.args.second.now ∷ [])) (iri_text c.args.whole.now))
    (phrase (codes "SubObjectPropertyOf") ((map side_text c.args.sides.now) ++ phrase (codes "ObjectPropertyChain") (iri_text c.args.first.now ∷ iri_text c.args.second.now ∷ []) ∷ iri_text c.args.whole.now ∷ [])) (phrase_two (codes "SubObjectPropertyOf") (map side_text c.args.sides.now) (phrase (codes "ObjectPropertyChain") (iri_text c.args.first.now ∷ iri_text c.args.second.now ∷ [])) (iri_text c.args.whole.now)) c.in_ok-push_opening.ensures c.end_chain.ensures
