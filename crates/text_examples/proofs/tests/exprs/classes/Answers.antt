use Rattle.std.proofs.Common.{refl, subst, sym}
use Rattle.owl_axioms.specs.Made.{AreProperExprs}
use Rattle.text_examples.proofs.Proper.{one_more}
use Rattle.text_examples.proofs.tests.exprs.classes.Goals as goal

pub loop-sign-init : goal.loop-sign-init
loop-sign-init c = subst AreProperExprs (sym c.new-exprs.ensures.items) refl

pub loop-sign-preserved : goal.loop-sign-preserved
loop-sign-preserved c = subst AreProperExprs (sym c.in_ok-push.ensures.items) (one_more c.loop-sign.exprs.items c.in_ok-class.field-0 c.loop-sign.invariant c.in_ok-class.ensures)
