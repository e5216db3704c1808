-- A pool as the list of the trees of its nodes. (Own.)
use Rattle.std.specs.Prelude.{ℕ, ◌≡◌, ◌+◌, Bool, true, ◌&&◌, List, [], ◌∷◌, ◌++◌, Option, Some, get_or, length, map, nat_lt, slice_get, take}
use Rattle.std.specs.List.{list_all}
use Rattle.owl_axioms.specs.declared.expr.ClassExpr.{ClassExpr}
use Rattle.owl_axioms.specs.declared.expr.ClassExpr.TheVariants as expr
use Rattle.expr_pool.specs.declared.cell.Cell.{Cell}
use Rattle.expr_pool.specs.declared.cell.Cell.TheVariants as cell
use Rattle.expr_pool.specs.declared.cell.Node.{Node}

-- the tree of a node
abbrev pub tree_at : List ClassExpr → Node → ClassExpr
tree_at trees n = get_or trees n.place expr.Thing

-- the tree of a cell, whose nodes stand for these trees
unfoldable pub tree_of : List ClassExpr → Cell → ClassExpr
tree_of trees cell.Thing = expr.Thing
tree_of trees cell.Nothing = expr.Nothing
tree_of trees (cell.Class iri) = expr.Class iri
tree_of trees (cell.And nodes) = expr.And (map (tree_at trees) nodes)
tree_of trees (cell.Or nodes) = expr.Or (map (tree_at trees) nodes)
tree_of trees (cell.Not part) = expr.Not (tree_at trees part)
tree_of trees (cell.Some role part) = expr.Some role (tree_at trees part)
tree_of trees (cell.All role part) = expr.All role (tree_at trees part)
tree_of trees (cell.Min n role part) = expr.Min n role (tree_at trees part)
tree_of trees (cell.Max n role part) = expr.Max n role (tree_at trees part)
tree_of trees (cell.Exact n role part) = expr.Exact n role (tree_at trees part)

-- the nodes in a cell
unfoldable pub nodes_of : Cell → List Node
nodes_of cell.Thing = []
nodes_of cell.Nothing = []
nodes_of (cell.Class iri) = []
nodes_of (cell.And nodes) = nodes
nodes_of (cell.Or nodes) = nodes
nodes_of (cell.Not part) = part ∷ []
nodes_of (cell.Some role part) = part ∷ []
nodes_of (cell.All role part) = part ∷ []
nodes_of (cell.Min n role part) = part ∷ []
nodes_of (cell.Max n role part) = part ∷ []
nodes_of (cell.Exact n role part) = part ∷ []

-- the nodes of a cell are below a place
abbrev pub is_before : ℕ → Cell → Bool
is_before place c = list_all (λ n. nat_lt n.place place) (nodes_of c)

abbrev pub IsBefore : ℕ → Cell → Type 0
IsBefore place c = is_before place c ≡ true

-- the trees of cells, whose nodes stand for the trees of earlier cells
abbrev pub trees_from : List ClassExpr → List Cell → List ClassExpr
trees_from trees [] = trees
trees_from trees (c ∷ cells) = trees_from (trees ++ tree_of trees c ∷ []) cells

unfoldable pub trees_of : List Cell → List ClassExpr
trees_of cells = trees_from [] cells

-- each cell's nodes come before it
abbrev pub are_ordered : ℕ → List Cell → Bool
are_ordered place [] = true
are_ordered place (c ∷ cells) = is_before place c && are_ordered (place + 1) cells

-- no tree is there twice
abbrev pub AreDifferent : List ClassExpr → Type 0
AreDifferent trees = (i j : ℕ) (t : ClassExpr) → slice_get trees i ≡ Some t → slice_get trees j ≡ Some t → i ≡ j

-- cells of a pool
unfoldable pub IsPool : List Cell → Type 0
IsPool cells = (map (tree_of (trees_of cells)) cells ≡ trees_of cells) × (are_ordered 0 cells ≡ true) × AreDifferent (trees_of cells)

-- the nodes of a cell are there
abbrev pub IsWithin : List Cell → Cell → Type 0
IsWithin cells c = IsBefore (length (trees_of cells)) c

-- the nodes that were there keep their trees; further ones may stand behind them
abbrev pub Grew : List ClassExpr → List ClassExpr → Type 0
Grew old new = take (length old) new ≡ old

-- what nodes stand for
abbrev pub stand : List ClassExpr → List Node → List (Option ClassExpr)
stand trees nodes = map (λ n. slice_get trees n.place) nodes

-- the cell of a tree, whose parts have nodes
abbrev pub IsCellOf : List ClassExpr → ClassExpr → Cell → Type 0
IsCellOf trees tree c = IsBefore (length trees) c × (tree_of trees c ≡ tree)
