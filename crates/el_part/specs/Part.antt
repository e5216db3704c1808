-- An EL part over the nodes of a pool, and what it stands for. (Own.)
use Rattle.std.specs.Prelude.{ℕ, ◌≡◌, ◌<◌, ◌↔◌, true, List, [], ◌∷◌, Option, Some, length, map, nat_eq, slice_get}
use Rattle.std.specs.Cmp.Lexicographic.{pointwise}
use Rattle.std.specs.Map.{lookup}
use Rattle.fact_rows.specs.Member.{In, NoRepeats}
use Rattle.owl_axioms.specs.declared.body.Body.{Body}
use Rattle.owl_axioms.specs.declared.body.Body.TheVariants as body
use Rattle.owl_axioms.specs.declared.expr.ClassExpr.{ClassExpr}
use Rattle.owl_axioms.specs.declared.expr.ClassExpr.TheVariants as expr
use Rattle.expr_pool.specs.Part.{parts_of}
use Rattle.expr_pool.specs.Pool.{tree_at}
use Rattle.expr_pool.specs.declared.cell.Node.{Node}
use Rattle.el_rules.specs.ElPart.{is_el}
use Rattle.el_rules.specs.Rules.{ElView}
use Rattle.el_part.specs.declared.el_axiom.ElAxiom.{ElAxiom}
use Rattle.el_part.specs.declared.el_axiom.ElAxiom.TheVariants as el

-- its axioms, the nodes of the expressions that occur, the node of each class that occurs, and the number of logical
-- axioms outside it
pub record PartState : Type 0 where
  pub axioms : List ElAxiom
  pub occurring : List Node
  pub classes : List (List ℕ × Node)
  pub unused : ℕ

-- the node of the class with an IRI
abbrev pub class_at : PartState → List ℕ → Option Node
class_at part iri = lookup (pointwise nat_eq iri) part.classes

-- the axiom that one over nodes stands for
unfoldable pub body_of : List ClassExpr → ElAxiom → Body
body_of trees (el.Sub c d) = body.Sub (tree_at trees c) (tree_at trees d)
body_of trees (el.Disjoint c d) = body.Disjoint (tree_at trees c) (tree_at trees d)
body_of trees (el.Domain r c) = body.Domain r (tree_at trees c)
body_of trees (el.SubRole r s) = body.SubRole r s
body_of trees (el.Chain r s t) = body.Chain r s t

-- the nodes in an axiom
unfoldable pub nodes_in : ElAxiom → List Node
nodes_in (el.Sub c d) = c ∷ d ∷ []
nodes_in (el.Disjoint c d) = c ∷ d ∷ []
nodes_in (el.Domain r c) = c ∷ []
nodes_in (el.SubRole r s) = []
nodes_in (el.Chain r s t) = []

-- what the part stands for in a pool of these trees
abbrev pub view_of : List ClassExpr → PartState → ElView
view_of trees part = record { axioms = map (body_of trees) part.axioms; occurring = map (tree_at trees) part.occurring }

-- the node is one of a tree
abbrev pub IsNodeOf : List ClassExpr → Node → ClassExpr → Type 0
IsNodeOf trees n t = slice_get trees n.place ≡ Some t

-- the part's nodes are in the pool, each once, and Thing and Nothing are the first of them. Their trees are EL
-- expressions; with each tree its parts have nodes there, and so have the expressions in the axioms
pub record FitsPool (trees : List ClassExpr) (part : PartState) : Type 0 where
  pub once : NoRepeats part.occurring
  pub within : (n : Node) → In n part.occurring → n.place < length trees
  pub first : (n : Node) × (slice_get part.occurring 0 ≡ Some n) × IsNodeOf trees n expr.Thing
  pub second : (n : Node) × (slice_get part.occurring 1 ≡ Some n) × IsNodeOf trees n expr.Nothing
  pub el : (n : Node) → In n part.occurring → is_el (tree_at trees n) ≡ true
  pub parts : (n : Node) → In n part.occurring → (p : ClassExpr) → In p (parts_of (tree_at trees n)) → (m : Node) × In m part.occurring × IsNodeOf trees m p
  pub axioms : (a : ElAxiom) → In a part.axioms → (n : Node) → In n (nodes_in a) → In n part.occurring

-- the classes are those that occur
abbrev pub HasClasses : List ClassExpr → PartState → Type 0
HasClasses trees part = (iri : List ℕ) (n : Node) → (class_at part iri ≡ Some n) ↔ (In n part.occurring × IsNodeOf trees n (expr.Class iri))
