-- The axioms over nodes: what the expressions of an axiom are, as nodes of a pool. (Own.)
use Rattle.std.specs.Prelude.{◌≡◌, Bool, true, false, List, Some, slice_get}
use Rattle.expr_pool.specs.declared.cell.Node.{Node}
use Rattle.owl_axioms.specs.declared.body.Body.{Body}
use Rattle.owl_axioms.specs.declared.body.Body.TheVariants as body
use Rattle.owl_axioms.specs.declared.expr.ClassExpr.{ClassExpr}
use Rattle.locality_core.specs.declared.plain.Plain.{Plain}
use Rattle.locality_core.specs.declared.plain.Plain.TheVariants as plain

-- the node is that of the tree
abbrev pub IsNodeOf : List ClassExpr → Node → ClassExpr → Type 0
IsNodeOf trees n t = slice_get trees n.place ≡ Some t

-- the axiom has class expressions
abbrev pub has_expressions : Body → Bool
has_expressions (body.Sub c d) = true
has_expressions (body.Equiv c d) = true
has_expressions (body.Disjoint c d) = true
has_expressions (body.Domain r c) = true
has_expressions (body.Range r c) = true
has_expressions (body.ClassAssertion c a) = true
has_expressions _ = false

-- two nodes, of the two expressions
abbrev pub AreNodesOf : List ClassExpr → Node → Node → (ClassExpr → ClassExpr → Body) → Body → Type 0
AreNodesOf trees m n of b = (c d : ClassExpr) × (b ≡ of c d) × IsNodeOf trees m c × IsNodeOf trees n d

-- one node, of the one expression
abbrev pub IsNodeIn : List ClassExpr → Node → (ClassExpr → Body) → Body → Type 0
IsNodeIn trees n of b = (c : ClassExpr) × (b ≡ of c) × IsNodeOf trees n c

-- the nodes are those of the axiom's expressions
abbrev pub IsPlainOf : List ClassExpr → Body → Plain → Type 0
IsPlainOf trees b (plain.Sub m n) = AreNodesOf trees m n (λ c d. body.Sub c d) b
IsPlainOf trees b (plain.Equiv m n) = AreNodesOf trees m n (λ c d. body.Equiv c d) b
IsPlainOf trees b (plain.Disjoint m n) = AreNodesOf trees m n (λ c d. body.Disjoint c d) b
IsPlainOf trees b (plain.Domain r n) = IsNodeIn trees n (λ c. body.Domain r c) b
IsPlainOf trees b (plain.Range r n) = IsNodeIn trees n (λ c. body.Range r c) b
IsPlainOf trees b (plain.ClassAssertion n a) = IsNodeIn trees n (λ c. body.ClassAssertion c a) b
IsPlainOf trees b plain.Other = has_expressions b ≡ false
