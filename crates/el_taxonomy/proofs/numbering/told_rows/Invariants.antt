use Rattle.std.proofs.Common.{List, take}
use Rattle.owl_axioms.specs.declared.expr.ClassExpr.{ClassExpr}
use Rattle.owl_ontology.specs.Ontology.{axioms_of}
use Rattle.el_taxonomy.specs.inner.Numbers.{AreTold, IsGround, exprs_of}
use Rattle.el_taxonomy.proofs.numbering.told_rows.Given as goal

abbrev pub invariant-loop-at : goal.invariant-loop-at
invariant-loop-at l = (trees : List ClassExpr) → IsGround trees l.part l.table → AreTold (exprs_of trees l.part) (take l.at (axioms_of l.ontology.entries)) l.told.items
