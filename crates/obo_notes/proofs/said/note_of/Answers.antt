-- The annotations of a clause are proper, so that their texts tell them.
use Rattle.std.proofs.Common.{◌++◌, map, subst, sym, ◌∙◌}
use Rattle.owl_axioms.specs.Text.{side_text}
use Rattle.text_sets.specs.Sets.{AreTold}
use Rattle.obo_notes.specs.Context.{reading_in, writing_in}
use Rattle.obo_notes.specs.Keys.{side_of_qualifier}
use Rattle.obo_notes.specs.inner.Rows.{meant}
use Rattle.obo_notes.proofs.ContextLemmas.{Agree-in}
use Rattle.obo_notes.proofs.ProperSides.{sides_are_told}
use Rattle.obo_notes.proofs.said.note_of.Goals as goal

pub qualified-requires : goal.qualified-requires
qualified-requires c =
    let space = c.args.space.now in
    let clause = c.args.clause.now in
    let told = sides_are_told (reading_in space) (writing_in space) (Agree-in space) (meant c.in-Some.form) clause.value c.in-Some-2.note clause.qualifiers (sym c.in_ok-note.ensures ∙ c.in-Some-2.is) in
    subst (λ qualifiers. AreTold side_text (c.in-Some-2.note.sides ++ map side_of_qualifier qualifiers)) (sym c.as_slice-2.ensures) told
