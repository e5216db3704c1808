use Rattle.std.proofs.Common.{IsTrue, refl, subst, sym}
use Rattle.std.specs.List.{list_all}
use Rattle.owl_axioms.specs.Proper.{is_proper_side}
use Rattle.text_examples.proofs.Proper.{one_side_more}
use Rattle.text_examples.proofs.tests.axioms.sides.Goals as goal

pub loop-note-init : goal.loop-note-init
loop-note-init c = subst (λ sides. IsTrue (list_all is_proper_side sides)) (sym c.new-sides.ensures.items) refl

pub loop-note-preserved : goal.loop-note-preserved
loop-note-preserved c =
    subst (λ sides. IsTrue (list_all is_proper_side sides)) (sym c.in_ok-push.ensures.items)
    (one_side_more c.loop-note.sides.items c.in_ok-side.side c.loop-note.invariant c.in_ok-side.ensures)
