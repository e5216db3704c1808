use Rattle.std.proofs.Common.{◌≡◌, take, map}
use Rattle.std.specs.List.{list_any, list_all}
use Rattle.locality_tables.specs.Verdict.{verdict, is_empty, is_full}
use Rattle.owl_axioms.specs.declared.expr.ClassExpr.{size-ClassExpr}
use Rattle.locality_core.specs.Shows.{operands}
use Rattle.owl_axioms.specs.Signature.{scope_of}
use Rattle.locality_core.proofs.trees.+verdict_of.Given as goal

abbrev pub decreases-verdict_of : goal.decreases-verdict_of
decreases-verdict_of g l = size-ClassExpr (g.F.Forest.stands l.forest.now l.tree)

abbrev pub invariant-operands : goal.invariant-operands
invariant-operands g l =
    let v = verdict g.L.Locality.CLASSES g.L.Locality.ROLES (scope_of l.sig) in
    let cs = operands (g.F.Forest.stands l.forest l.tree) in
    record { any : l.any_empty ≡ list_any is_empty (map v (take l.at cs)); all : l.all_full ≡ list_all is_full (map v (take l.at cs)) }

abbrev pub invariant-choices : goal.invariant-choices
invariant-choices g l =
    let v = verdict g.L.Locality.CLASSES g.L.Locality.ROLES (scope_of l.sig) in
    let cs = operands (g.F.Forest.stands l.forest l.tree) in
    record { any : l.any_full ≡ list_any is_full (map v (take l.at cs)); all : l.all_empty ≡ list_all is_empty (map v (take l.at cs)) }
