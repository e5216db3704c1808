use Rattle.std.proofs.Common.{◌≡◌, take}
use Rattle.owl_axioms.proofs.expr.+copying.Given as goal

abbrev pub invariant-copy_exprs-loop-expr : goal.invariant-copy_exprs-loop-expr
invariant-copy_exprs-loop-expr l = l.twins.items ≡ take l.expr-index l.exprs
