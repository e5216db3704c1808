use Rattle.std.proofs.Common.{◌∷◌, ◌++◌, [], codes, map}
use Rattle.owl_axioms.specs.Text.{expr_text, iri_text, phrase, side_text}
use Rattle.owl_axioms.specs.inner.Joined.{end_two, opening}
use Rattle.owl_axioms.proofs.JoinedTexts.{phrase_two, then_end}
use Rattle.owl_axioms.proofs.axiom_phrases.of_member.Goals as goal

pub returns : goal.returns
returns c =
    then_end c.end_member.result c.end_member.new.out.items c.push_opening.new.out.items c.args.out.now.items (opening (codes "ClassAssertion") (map side_text c.args.sides.now)) (end_two (expr_text c.args.class.now) (iri_text c.args.name.now))
    (phrase (codes "ClassAssertion") ((map side_text c.args.sides.now) ++ expr_text c.args.class.now ∷ iri_text c.args.name.now ∷ [])) (phrase_two (codes "ClassAssertion") (map side_text c.args.sides.now) (expr_text c.args.class.now) (iri_text c.args.name.now)) c.in_ok-push_opening.ensures c.end_member.ensures
