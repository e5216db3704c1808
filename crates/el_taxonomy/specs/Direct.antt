-- The direct edges as a list, and the table by which they are found. (Own.)
use Rattle.std.specs.Prelude.{ℕ, ◌≡◌, ◌<◌, ◌↔◌, true, Bool, List, Contains, Some, slice_get}
use Rattle.std.specs.Cmp.Lexicographic.{slice_cmp}
use Rattle.std.specs.Ordering.{is_lt, nat_cmp, ordering_then}
use Rattle.owl_axioms.specs.declared.body.Axiom.{Axiom}
use Rattle.owl_axioms.specs.declared.expr.ClassExpr.{ClassExpr}
use Rattle.el_part.specs.Part.{FitsPool, HasClasses, PartState, view_of}
use Rattle.el_rules.specs.Rules.{ElView, IsElPartOf}
use Rattle.el_saturate.specs.Table.{Facts, HasRows, IsTableOf}
use Rattle.el_taxonomy.specs.Taxonomy.{IsDirectEdge}
use Rattle.el_taxonomy.specs.declared.edge.Edge.{Edge}

-- a part of axioms over the nodes of a pool, and a table of exactly the facts that are derived in it, within a limit
pub record AreFactsOf (axioms : List Axiom) (trees : List ClassExpr) (part : PartState) (limit : ℕ) (table : Facts) : Type 0 where
  pub part_is : IsElPartOf axioms (view_of trees part)
  pub fits : FitsPool trees part
  pub classes : HasClasses trees part
  pub count : ℕ
  pub table_is : IsTableOf trees (view_of trees part) limit count table
  pub rows : HasRows part.occurring table

abbrev pub edge_of : List ℕ → List ℕ → Edge
edge_of sub super = record { sub = sub; sup = super }

-- by the class below, and then by the class above
abbrev pub comes_first : Edge → Edge → Bool
comes_first one other = is_lt (ordering_then (slice_cmp nat_cmp one.sub other.sub) (slice_cmp nat_cmp one.sup other.sup))

-- exactly the direct edges that are not stated, in the order of their names, each once
pub record AreDirectEdges (axioms : List Axiom) (view : ElView) (edges : List Edge) : Type 0 where
  pub exactly : (sub super : List ℕ) → Contains edges (edge_of sub super) ↔ IsDirectEdge axioms view sub super
  pub sorted : (i j : ℕ) (one other : Edge) → slice_get edges i ≡ Some one → slice_get edges j ≡ Some other → i < j → comes_first one other ≡ true
