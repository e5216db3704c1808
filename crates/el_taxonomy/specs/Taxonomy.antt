-- The classes of an ontology in the order that is derived of them, and the direct edges of that order. Classes have names:
-- owl:Thing and owl:Nothing are expressions of their own. (Direct subclasses of a taxonomy, with equal classes: own.)
use Rattle.std.specs.Prelude.{ℕ, ◌≡◌, List}
use Rattle.owl_axioms.specs.Vocabulary.{owl_nothing, owl_thing}
use Rattle.owl_axioms.specs.declared.body.Axiom.{Axiom}
use Rattle.owl_axioms.specs.declared.expr.ClassExpr.TheVariants as expr
use Rattle.el_rules.specs.Occurs.{IsDeclared}
use Rattle.el_rules.specs.Rules.{Derived, ElView, IsBelow}
use Rattle.reduce_edges.specs.Edges.{IsEdge}

-- that the first class is below the second is derived
abbrev pub AreBelow : ElView → List ℕ → List ℕ → Type 0
AreBelow view sub super = Derived view (IsBelow (expr.Class sub) (expr.Class super))

-- that nothing is in the class is derived
abbrev pub IsEmpty : ElView → List ℕ → Type 0
IsEmpty view class = Derived view (IsBelow (expr.Class class) expr.Nothing)

-- a class that is declared, and is neither owl:Thing nor owl:Nothing
pub record IsDeclaredClass (axioms : List Axiom) (class : List ℕ) : Type 0 where
  pub declared : IsDeclared axioms class
  pub no_thing : ¬ (class ≡ owl_thing)
  pub no_nothing : ¬ (class ≡ owl_nothing)

-- a class is strictly between two: above the first, below the second, and neither the other way round
pub record IsStrictlyBetween (view : ElView) (sub between super : List ℕ) : Type 0 where
  pub low : AreBelow view sub between
  pub high : AreBelow view between super
  pub no_back : ¬ (AreBelow view between sub)
  pub no_return : ¬ (AreBelow view super between)

-- a direct edge that is not stated: from a declared class to another one that it is below, where no axiom says so, with
-- annotations or without, and no class is strictly between. Of equal classes each has an edge to the other
pub record IsDirectEdge (axioms : List Axiom) (view : ElView) (sub super : List ℕ) : Type 0 where
  pub declared : IsDeclaredClass axioms sub
  pub other : ¬ (sub ≡ super)
  pub below : AreBelow view sub super
  pub unsaid : ¬ (IsEdge axioms sub super)
  pub none : (between : List ℕ) → ¬ (IsStrictlyBetween view sub between super)
