-- The annotations are proper, so that their texts tell them.
use Rattle.std.proofs.Common.{◌++◌, ap, subst, sym, ◌∙◌}
use Rattle.owl_axioms.specs.Text.{side_text}
use Rattle.text_sets.specs.Sets.{AreTold}
use Rattle.obo_statements.specs.Extras.{annotations_of}
use Rattle.obo_statements.proofs.MeaningTexts.{annotations_told}
use Rattle.obo_statements.proofs.sides.annotations_of.Goals as goal

pub sorted-requires : goal.sorted-requires
sorted-requires c =
    let all = c.in_ok-push_annotations.ensures ∙ ap (λ sides. sides ++ annotations_of c.args.qualifiers.now) c.in_ok-sides.ensures.items in
    record { told = subst (AreTold side_text) (sym all) (annotations_told c.args.qualifiers.now) }
