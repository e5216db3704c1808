use Rattle.std.proofs.Common.{◌∷◌, ◌++◌, [], map}
use Rattle.owl_axioms.specs.Text.{iri_text, phrase, side_text}
use Rattle.owl_axioms.specs.inner.Joined.{end_one, opening}
use Rattle.owl_axioms.proofs.JoinedTexts.{phrase_one, then_end}
use Rattle.owl_axioms.proofs.axiom_phrases.of_iri.Goals as goal

pub returns : goal.returns
returns c =
    then_end c.end_iri.result c.end_iri.new.out.items c.push_opening.new.out.items c.args.out.now.items (opening c.args.word.now (map side_text c.args.sides.now)) (end_one (iri_text c.args.one.now))
    (phrase c.args.word.now ((map side_text c.args.sides.now) ++ iri_text c.args.one.now ∷ [])) (phrase_one c.args.word.now (map side_text c.args.sides.now) (iri_text c.args.one.now)) c.in_ok-push_opening.ensures c.end_iri.ensures
