use Rattle.std.proofs.Common.{◌∷◌, ◌++◌, [], map}
use Rattle.owl_axioms.specs.Text.{expr_text, phrase, side_text}
use Rattle.owl_axioms.specs.inner.Joined.{end_two, opening}
use Rattle.owl_axioms.proofs.JoinedTexts.{phrase_two, then_end}
use Rattle.owl_axioms.proofs.axiom_phrases.of_exprs.Goals as goal

pub returns : goal.returns
returns c =
    then_end c.end_exprs.result c.end_exprs.new.out.items c.push_opening.new.out.items c.args.out.now.items (opening c.args.word.now (map side_text c.args.sides.now)) (end_two (expr_text c.args.one.now) (expr_text c.args.other.now))
    (phrase c.args.word.now ((map side_text c.args.sides.now) ++ expr_text c.args.one.now ∷ expr_text c.args.other.now ∷ [])) (phrase_two c.args.word.now (map side_text c.args.sides.now) (expr_text c.args.one.now) (expr_text c.args.other.now)) c.in_ok-push_opening.ensures c.end_exprs.ensures
