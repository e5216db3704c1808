use Rattle.std.proofs.Common.{[], ◌∷◌, ◌++◌, ap, ◌∙◌}
use Rattle.owl_axioms.specs.declared.expr.ClassExpr.TheVariants as expr
use Rattle.el_part.proofs.RootLemmas.{two_stand}
use Rattle.el_part.proofs.roots.first_roots.Goals as goal

pub returns-clause-roots : goal.returns-clause-roots
returns-clause-roots c =
    two_stand c.intern.new.self c.intern-2.new.self c.in_ok-thing.thing c.in_ok-nothing.nothing expr.Thing expr.Nothing c.push-2.new.self.items c.in_ok-nothing.ensures.kept c.in_ok-thing.ensures.node c.in_ok-nothing.ensures.node
    (c.in_ok-push-2.ensures.items ∙ ap (λ l. l ++ c.in_ok-nothing.nothing ∷ []) (c.in_ok-push.ensures.items ∙ ap (λ l. l ++ c.in_ok-thing.thing ∷ []) c.new-roots.ensures.items))
