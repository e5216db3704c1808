use Rattle.std.proofs.Common.{◌≡◌, take}
use Rattle.owl_axioms.specs.Signature.{SigState, added}
use Rattle.owl_axioms.specs.inner.Growth.{IsMore, names_list}
use Rattle.owl_axioms.proofs.naming.+naming.Given as goal

abbrev pub invariant-add_exprs-loop-expr : goal.invariant-add_exprs-loop-expr
invariant-add_exprs-loop-expr l = record { names : l.sig ≡ added l.initial.sig (names_list (take l.expr-index l.exprs)); more : (t : SigState) → IsMore t l.initial.sig → IsMore t l.sig }
