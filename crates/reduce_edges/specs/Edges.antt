-- Edges between classes, and what is reached along them. (Axioms: OWL 2 Structural Specification; reachability in a
-- directed graph.)
use Rattle.std.specs.Prelude.{ℕ, ◌≡◌, List, [], ◌∷◌, ◌++◌, Option, None, Some, Contains}
use Rattle.owl_axioms.specs.declared.body.Axiom.{Axiom}
use Rattle.owl_axioms.specs.declared.body.Body.{Body}
use Rattle.owl_axioms.specs.declared.body.Body.TheVariants as body
use Rattle.owl_axioms.specs.declared.expr.ClassExpr.{ClassExpr}
use Rattle.owl_axioms.specs.declared.expr.ClassExpr.TheVariants as expr

-- the first class is a subclass of the second. Classes have names: owl:Thing and owl:Nothing are expressions of their own
abbrev pub edge : List ℕ → List ℕ → Body
edge sub super = body.Sub (expr.Class sub) (expr.Class super)

-- some axiom says so, with annotations or without
pub record IsEdge (axioms : List Axiom) (sub super : List ℕ) : Type 0 where
  pub one : Axiom
  pub stands : Contains axioms one
  pub says : one.body ≡ edge sub super

-- there is a walk of zero or more edges
pub data Reach (axioms : List Axiom) : List ℕ → List ℕ → Type 0 where
  stay : {a : List ℕ} → Reach axioms a a
  go : {a b c : List ℕ} → IsEdge axioms a b → Reach axioms b c → Reach axioms a c

-- the names of two classes
abbrev pub Pair : Type 0
Pair = List ℕ × List ℕ

-- the name of a class
unfoldable pub class_name : ClassExpr → Option (List ℕ)
class_name (expr.Class iri) = Some iri
class_name other = None

abbrev pub pair_of : Option (List ℕ) → Option (List ℕ) → Option Pair
pair_of (Some sub) (Some super) = Some (sub, super)
pair_of one other = None

-- the edge that an axiom says
unfoldable pub edge_in : Body → Option Pair
edge_in (body.Sub sub super) = pair_of (class_name sub) (class_name super)
edge_in other = None

-- the edges of axioms, in their order
abbrev pub edge_list : Option Pair → List Pair
edge_list None = []
edge_list (Some pair) = pair ∷ []

abbrev pub edges_of : List Axiom → List Pair
edges_of [] = []
edges_of (a ∷ axioms) = edge_list (edge_in a.body) ++ edges_of axioms
