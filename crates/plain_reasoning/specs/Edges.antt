-- The direct edges that are not stated, as a plain function of axioms: of all pairs of a declared class and a class that
-- occurs those that pass the tests, in the order of their names. (Own.)
use Rattle.std.specs.Prelude.{ℕ, Bool, not, ◌&&◌, ◌||◌, List, [], ◌∷◌, filter, flat_map, map}
use Rattle.std.specs.Cmp.Lexicographic.{slice_cmp}
use Rattle.std.specs.List.{list_any}
use Rattle.std.specs.Ordering.{nat_cmp, ordering_then}
use Rattle.std.specs.Str.{bytes_eq}
use Rattle.std.specs.declared.cmp.Ordering.{Ordering}
use Rattle.text_sets.specs.Sorted.{sorted_on}
use Rattle.owl_axioms.specs.declared.body.Axiom.{Axiom}
use Rattle.owl_axioms.specs.declared.expr.ClassExpr.{ClassExpr}
use Rattle.owl_axioms.specs.declared.expr.ClassExpr.TheVariants as expr
use Rattle.relax_axioms.specs.Implied.{is_said}
use Rattle.reduce_edges.specs.Edges.{edge}
use Rattle.el_rules.specs.Rules.{ElFact, IsBelow}
use Rattle.el_taxonomy.specs.Direct.{edge_of}
use Rattle.el_taxonomy.specs.declared.edge.Edge.{Edge}
use Rattle.plain_reasoning.specs.Facts.{facts_of, knows}
use Rattle.plain_reasoning.specs.Occurring.{declared_classes, occurring_of, view_of_axioms}

-- the facts that are derived in axioms
unfoldable pub facts_in : List Axiom → List ElFact
facts_in axioms = facts_of (view_of_axioms axioms)

-- the class that an expression is
unfoldable pub class_in : ClassExpr → List (List ℕ)
class_in (expr.Class a) = a ∷ []
class_in other = []

-- the classes that occur, as often as they do
unfoldable pub classes_in : List Axiom → List (List ℕ)
classes_in axioms = flat_map class_in (occurring_of axioms)

-- whether the facts say that a class is below another
abbrev pub says_below : List ElFact → List ℕ → List ℕ → Bool
says_below facts sub super = knows facts (IsBelow (expr.Class sub) (expr.Class super))

-- whether a class is strictly between two
abbrev pub is_between : List ElFact → List ℕ → List ℕ → List ℕ → Bool
is_between facts sub super between =
    (says_below facts sub between && says_below facts between super) && not (says_below facts between sub || says_below facts super between)

-- whether an edge leads to another class above, which no axiom says, and no class is strictly between
unfoldable pub is_direct : List Axiom → Edge → Bool
is_direct axioms e =
    (not (bytes_eq e.sub e.sup) && says_below (facts_in axioms) e.sub e.sup)
    && (not (is_said axioms (edge e.sub e.sup)) && not (list_any (is_between (facts_in axioms) e.sub e.sup) (classes_in axioms)))

-- the order of edges: by the class below, and then by the class above
abbrev pub edge_cmp : Edge → Edge → Ordering
edge_cmp one other = ordering_then (slice_cmp nat_cmp one.sub other.sub) (slice_cmp nat_cmp one.sup other.sup)

-- the pairs of a declared class and a class that occurs
unfoldable pub pairs_in : List Axiom → List Edge
pairs_in axioms = flat_map (λ sub. map (edge_of sub) (classes_in axioms)) (declared_classes axioms)

-- the direct edges that are not stated
unfoldable pub edges_of : List Axiom → List Edge
edges_of axioms = sorted_on edge_cmp (λ e. e) (filter (is_direct axioms) (pairs_in axioms))
