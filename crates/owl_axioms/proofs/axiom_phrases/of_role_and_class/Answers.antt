use Rattle.std.proofs.Common.{◌∷◌, ◌++◌, [], map}
use Rattle.owl_axioms.specs.Text.{expr_text, iri_text, phrase, side_text}
use Rattle.owl_axioms.specs.inner.Joined.{end_two, opening}
use Rattle.owl_axioms.proofs.JoinedTexts.{phrase_two, then_end}
use Rattle.owl_axioms.proofs.axiom_phrases.of_role_and_class.Goals as goal

pub returns : goal.returns
returns c =
    then_end c.end_expr.result c.end_expr.new.out.items c.push_opening.new.out.items c.args.out.now.items (opening c.args.word.now (map side_text c.args.sides.now)) (end_two (iri_text c.args.role.now) (expr_text c.args.class.now))
    (phrase c.args.word.now ((map side_text c.args.sides.now) ++ iri_text c.args.role.now ∷ expr_text c.args.class.now ∷ [])) (phrase_two c.args.word.now (map side_text c.args.sides.now) (iri_text c.args.role.now) (expr_text c.args.class.now)) c.in_ok-push_opening.ensures c.end_expr.ensures
