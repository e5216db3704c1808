-- What is reached from some nodes, as flags and as a list of nodes. (Own.)
use Rattle.std.specs.Prelude.{ℕ, zero, suc, ◌≡◌, ◌==◌, ◌↔◌, Bool, false, not, ◌&&◌, List, [], ◌∷◌, ◌++◌, Some, get_or, if◌then◌else◌, length, slice_get}
use Rattle.fact_rows.specs.Member.{In, NoRepeats}
use Rattle.owl_axioms.specs.declared.expr.ClassExpr.{ClassExpr}
use Rattle.owl_axioms.specs.declared.expr.ClassExpr.TheVariants as expr
use Rattle.expr_pool.specs.Part.{AreBefore, Inside, IsMarked, parts_of}
use Rattle.expr_pool.specs.Pool.{tree_at}
use Rattle.expr_pool.specs.declared.cell.Node.{Node}
use Rattle.el_part.specs.Part.{IsNodeOf}

-- the tree of a place stands in that of some root
abbrev pub IsReached : List ClassExpr → List Node → ℕ → Type 0
IsReached trees roots i = (r : Node) × In r roots × (t : ClassExpr) × (slice_get trees i ≡ Some t) × Inside (tree_at trees r) t

-- the flags that are raised are those of such places
abbrev pub AreReached : List ClassExpr → List Node → List Bool → Type 0
AreReached trees roots flags = (i : ℕ) → IsMarked flags i ↔ IsReached trees roots i

-- the flag is raised, and the place is none of two
abbrev pub is_other : List Bool → ℕ → ℕ → ℕ → Bool
is_other flags one two at = get_or flags at false && not (at == one) && not (at == two)

-- the node of a place
abbrev pub node_at : ℕ → Node
node_at at = record { place = at }

-- the nodes of the first places that pass
abbrev pub others : (ℕ → Bool) → ℕ → List Node
others p zero = []
others p (suc k) = others p k ++ (if p k then node_at k ∷ [] else [])

-- the first two nodes are those of Thing and Nothing
pub record StartWithNames (trees : List ClassExpr) (nodes : List Node) : Type 0 where
  pub first : (n : Node) × (slice_get nodes 0 ≡ Some n) × IsNodeOf trees n expr.Thing
  pub second : (n : Node) × (slice_get nodes 1 ≡ Some n) × IsNodeOf trees n expr.Nothing

-- the nodes of all that is reached from some nodes, each once, with each the nodes of its parts
pub record AreOccurring (trees : List ClassExpr) (roots nodes : List Node) : Type 0 where
  pub once : NoRepeats nodes
  pub before : AreBefore (length trees) nodes
  pub start : StartWithNames trees nodes
  pub sound : (n : Node) → In n nodes → IsReached trees roots n.place
  pub complete : (n : Node) → IsReached trees roots n.place → In n nodes
  pub parts : (n : Node) → In n nodes → (p : ClassExpr) → In p (parts_of (tree_at trees n)) → (m : Node) × In m nodes × IsNodeOf trees m p
