-- The edges between the classes of numbers. (Own.)
use Rattle.std.specs.Prelude.{ℕ, List, [], ◌∷◌, Option, None, Some, flat_map, slice_get}
use Rattle.owl_axioms.specs.declared.expr.ClassExpr.{ClassExpr}
use Rattle.el_taxonomy.specs.Direct.{edge_of}
use Rattle.el_taxonomy.specs.declared.edge.Edge.{Edge}
use Rattle.el_taxonomy.specs.inner.Numbers.{class_name}

-- the class that an expression is
unfoldable pub class_if : Option ClassExpr → Option (List ℕ)
class_if None = None
class_if (Some c) = class_name c

-- the class of a number
abbrev pub class_numbered : List ClassExpr → ℕ → Option (List ℕ)
class_numbered exprs k = class_if (slice_get exprs k)

-- the edge between two classes, where there are two
abbrev pub edge_between : Option (List ℕ) → Option (List ℕ) → List Edge
edge_between (Some sub) (Some super) = edge_of sub super ∷ []
edge_between one other = []

-- that between the classes of two numbers
abbrev pub edge_numbered : List ClassExpr → ℕ × ℕ → List Edge
edge_numbered exprs pair = edge_between (class_numbered exprs pair.0) (class_numbered exprs pair.1)

-- those between the classes of pairs of numbers
abbrev pub edges_numbered : List ClassExpr → List (ℕ × ℕ) → List Edge
edges_numbered exprs pairs = flat_map (edge_numbered exprs) pairs
