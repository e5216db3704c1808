-- Which axioms go, as a plain function of the axioms. (Own; reachability in a directed graph, an edge at a time.)
use Rattle.std.specs.Prelude.{ℕ, Bool, true, false, not, ◌&&◌, ◌||◌, List, [], ◌∷◌, Option, None, Some, flat_map}
use Rattle.std.specs.List.{list_any}
use Rattle.std.specs.Str.{bytes_eq}
use Rattle.owl_axioms.specs.declared.annotation.Side.{Side}
use Rattle.owl_axioms.specs.declared.body.Axiom.{Axiom}
use Rattle.reduce_edges.specs.Edges.{Pair, edge_in, edges_of}

-- with an edge more a class reaches another if it did, or if it reached the start of the edge and the end of it the other
abbrev pub reaches_with : Option Pair → (List ℕ → List ℕ → Bool) → List ℕ → List ℕ → Bool
reaches_with None before a b = before a b
reaches_with (Some e) before a b = before a b || (before a e.0 && before e.1 b)

-- whether a class reaches another: without axioms itself alone
unfoldable pub reaches : List Axiom → List ℕ → List ℕ → Bool
reaches [] a b = bytes_eq a b
reaches (one ∷ axioms) a b = reaches_with (edge_in one.body) (reaches axioms) a b

-- the classes at the ends of edges
abbrev pub ends_of : List Axiom → List (List ℕ)
ends_of axioms = flat_map (λ e. e.0 ∷ e.1 ∷ []) (edges_of axioms)

-- whether a class is strictly between two
unfoldable pub is_between : List Axiom → List ℕ → List ℕ → List ℕ → Bool
is_between axioms sub between super =
    (reaches axioms sub between && reaches axioms between super) && not (reaches axioms between sub || reaches axioms super between)

-- whether an edge is redundant
unfoldable pub is_redundant : List Axiom → List ℕ → List ℕ → Bool
is_redundant axioms sub super = bytes_eq sub super || list_any (λ between. is_between axioms sub between super) (ends_of axioms)

-- whether there are no annotations
abbrev pub has_none : List Side → Bool
has_none [] = true
has_none (side ∷ sides) = false

-- whether an axiom goes, by the edge that it says
abbrev pub goes_by : List Axiom → Bool → Option Pair → List Side → Bool
goes_by axioms keep_annotated None sides = false
goes_by axioms keep_annotated (Some e) sides = is_redundant axioms e.0 e.1 && (not keep_annotated || has_none sides)

unfoldable pub goes : List Axiom → Bool → Axiom → Bool
goes axioms keep_annotated one = goes_by axioms keep_annotated (edge_in one.body) one.sides
