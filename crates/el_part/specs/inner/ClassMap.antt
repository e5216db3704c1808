-- A map from IRIs to the nodes of classes. (Own.)
use Rattle.std.specs.Prelude.{ℕ, ◌≡◌, ◌↔◌, Bool, List, Option, Some, cond, nat_eq}
use Rattle.std.specs.Cmp.Lexicographic.{pointwise}
use Rattle.fact_rows.specs.Member.{In}
use Rattle.owl_axioms.specs.declared.expr.ClassExpr.{ClassExpr}
use Rattle.owl_axioms.specs.declared.expr.ClassExpr.TheVariants as expr
use Rattle.expr_pool.specs.declared.cell.Cell.{Cell}
use Rattle.expr_pool.specs.declared.cell.Cell.TheVariants as cell
use Rattle.expr_pool.specs.declared.cell.Node.{Node}
use Rattle.el_part.specs.Part.{IsNodeOf}

-- whether two IRIs are one
abbrev pub same_iri : List ℕ → List ℕ → Bool
same_iri = pointwise nat_eq

-- the map with the node of a cell, if that is a class
unfoldable pub with_class : Cell → Node → (List ℕ → Option Node) → List ℕ → Option Node
with_class (cell.Class iri) n classes other = cond (same_iri iri other) (Some n) (classes other)
with_class _ n classes other = classes other

-- the map has the classes among these nodes
abbrev pub AreClassesOf : List ClassExpr → List Node → (List ℕ → Option Node) → Type 0
AreClassesOf trees nodes classes = (iri : List ℕ) (n : Node) → (classes iri ≡ Some n) ↔ (In n nodes × IsNodeOf trees n (expr.Class iri))
