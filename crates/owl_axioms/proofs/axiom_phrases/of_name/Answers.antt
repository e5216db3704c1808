use Rattle.std.proofs.Common.{◌∷◌, ◌++◌, [], codes, map}
use Rattle.owl_axioms.specs.Text.{name_text, phrase, side_text}
use Rattle.owl_axioms.specs.inner.Joined.{end_one, opening}
use Rattle.owl_axioms.proofs.JoinedTexts.{phrase_one, then_end}
use Rattle.owl_axioms.proofs.axiom_phrases.of_name.Goals as goal

pub returns : goal.returns
returns c =
    then_end c.end_name.result c.end_name.new.out.items c.push_opening.new.out.items c.args.out.now.items (opening (codes "Declaration") (map side_text c.args.sides.now)) (end_one (name_text c.args.name.now))
    (phrase (codes "Declaration") ((map side_text c.args.sides.now) ++ name_text c.args.name.now ∷ [])) (phrase_one (codes "Declaration") (map side_text c.args.sides.now) (name_text c.args.name.now)) c.in_ok-push_opening.ensures c.end_name.ensures
