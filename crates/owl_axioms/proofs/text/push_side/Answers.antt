use Rattle.std.proofs.Common.{◌∷◌, ◌++◌, [], codes}
use Rattle.owl_axioms.specs.Text.{iri_text, label_texts, phrase, side_text, value_text}
use Rattle.owl_axioms.specs.inner.Joined.{end_two, opening}
use Rattle.owl_axioms.proofs.JoinedTexts.{phrase_two, then_end}
use Rattle.owl_axioms.proofs.text.push_side.Goals as goal

pub returns : goal.returns
unfolding side_text
returns c =
    then_end c.end_value.result c.end_value.new.out.items c.push_side_opening.new.out.items c.args.out.now.items (opening (codes "Annotation") (label_texts c.args.side.now.label)) (end_two (iri_text c.args.side.now.property) (value_text c.args.side.now.value))
    (phrase (codes "Annotation") ((label_texts c.args.side.now.label) ++ iri_text c.args.side.now.property ∷ value_text c.args.side.now.value ∷ [])) (phrase_two (codes "Annotation") (label_texts c.args.side.now.label) (iri_text c.args.side.now.property) (value_text c.args.side.now.value)) c.in_ok-push_side_opening.ensures c.end_value.ensures
