use Rattle.std.proofs.Common.{◌≡◌, take}
use Rattle.module_extract.specs.inner.Naming.{names_list, pushed}
use Rattle.module_extract.proofs.naming.+naming.Given as goal

abbrev pub invariant-push_exprs-loop-expr : goal.invariant-push_exprs-loop-expr
invariant-push_exprs-loop-expr l = l.names.items ≡ pushed l.initial.names.items (names_list (take l.expr-index l.exprs))
