-- What the cell of a node says of the trees of a pool. (Own.)
use Rattle.std.specs.Prelude.{ℕ, ◌≡◌, ◌⊎◌, ◌<◌, ◌≤◌, List, Some, IsTrue, length, map, slice_get}
use Rattle.owl_axioms.specs.Made.{IsProperExpr}
use Rattle.owl_axioms.specs.Proper.{rises}
use Rattle.owl_axioms.specs.Text.{expr_text}
use Rattle.owl_axioms.specs.declared.expr.ClassExpr.{ClassExpr}
use Rattle.fact_rows.specs.Member.{In}
use Rattle.expr_pool.specs.Part.{Inside, parts_of}
use Rattle.expr_pool.specs.Pool.{IsBefore, tree_at, tree_of}
use Rattle.expr_pool.specs.declared.cell.Cell.{Cell}
use Rattle.expr_pool.specs.declared.cell.Cell.TheVariants as cell
use Rattle.expr_pool.specs.declared.cell.Node.{Node}

-- two or more, in the order of their trees' texts
pub record Rise (trees : List ClassExpr) (nodes : List Node) : Type 0 where
  pub several : 2 ≤ length nodes
  pub rising : IsTrue (rises (map (λ n. expr_text (tree_at trees n)) nodes))

abbrev pub OperandsRise : List ClassExpr → Cell → Type 0
OperandsRise trees c = (nodes : List Node) → (c ≡ cell.And nodes) ⊎ (c ≡ cell.Or nodes) → IsProperExpr (tree_of trees c) → Rise trees nodes

-- each part of the tree of a cell at a place has a node before that place
abbrev pub PartsAreThere : List ClassExpr → ℕ → Cell → Type 0
PartsAreThere trees at c = at ≤ length trees → IsBefore at c → (part : ClassExpr) → In part (parts_of (tree_of trees c)) → (i : ℕ) × (i < at) × (slice_get trees i ≡ Some part)

-- with each tree of a pool its parts, and theirs, have nodes, not behind its own
abbrev pub PartsHaveNodes : List ClassExpr → Type 0
PartsHaveNodes trees = (i : ℕ) (t : ClassExpr) → slice_get trees i ≡ Some t → (p : ClassExpr) → Inside t p → (j : ℕ) × (j ≤ i) × (slice_get trees j ≡ Some p)
