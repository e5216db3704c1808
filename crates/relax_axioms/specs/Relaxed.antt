-- The inclusions that definitions imply and that are not stated. A definition says that a class and an intersection are
-- equivalent; the class is then a subclass of each operand. (Own; the role of the command `relax` of ROBOT. Axioms: OWL 2
-- Structural Specification.)
use Rattle.std.specs.Prelude.{ℕ, ◌≡◌, ◌⊎◌, List, [], Contains}
use Rattle.owl_axioms.specs.declared.body.Axiom.{Axiom}
use Rattle.owl_axioms.specs.declared.body.Body.{Body}
use Rattle.owl_axioms.specs.declared.body.Body.TheVariants as body
use Rattle.owl_axioms.specs.declared.expr.ClassExpr.{ClassExpr}
use Rattle.owl_axioms.specs.declared.expr.ClassExpr.TheVariants as expr

-- a class, or what has some filler in a class. The class has a name: owl:Thing and owl:Nothing are expressions of their
-- own
abbrev pub IsRelaxed : ClassExpr → Type 0
IsRelaxed operand =
    ((class : List ℕ) × (operand ≡ expr.Class class)) ⊎ ((role : List ℕ) × (class : List ℕ) × (operand ≡ expr.Some role (expr.Class class)))

-- the class and the intersection of the operands are equivalent, whichever of them stands first
abbrev pub Defines : Body → List ℕ → List ClassExpr → Type 0
Defines said class operands =
    (said ≡ body.Equiv (expr.Class class) (expr.And operands)) ⊎ (said ≡ body.Equiv (expr.And operands) (expr.Class class))

-- the class is a subclass of the expression
abbrev pub below : List ℕ → ClassExpr → Body
below class operand = body.Sub (expr.Class class) operand

-- a definition of the class has this operand, which is a class or a restriction to a class
pub record IsImplied (axioms : List Axiom) (class : List ℕ) (operand : ClassExpr) : Type 0 where
  pub definition : Axiom
  pub operands : List ClassExpr
  pub stands : Contains axioms definition
  pub defines : Defines definition.body class operands
  pub has : Contains operands operand
  pub fits : IsRelaxed operand

-- something is said by an axiom, with annotations or without
pub record IsSaid (axioms : List Axiom) (said : Body) : Type 0 where
  pub one : Axiom
  pub stands : Contains axioms one
  pub says : one.body ≡ said

-- an axiom without annotations
abbrev pub plain : Body → Axiom
plain said = record { body = said; sides = [] }

-- an axiom that relaxing adds: it is implied, and is not said yet
pub record IsMissing (axioms : List Axiom) (added : Axiom) : Type 0 where
  pub class : List ℕ
  pub operand : ClassExpr
  pub implied : IsImplied axioms class operand
  pub unsaid : ¬ (IsSaid axioms (below class operand))
  pub is : added ≡ plain (below class operand)
