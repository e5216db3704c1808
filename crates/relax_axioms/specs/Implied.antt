-- What definitions imply and no axiom says, as a plain function: in the order of the axioms and, in one axiom, of its
-- operands, each once. (Own.)
use Rattle.std.specs.Prelude.{ℕ, Bool, true, false, not, List, [], ◌∷◌, Option, None, Some, filter, flat_map, map}
use Rattle.std.specs.List.{list_any}
use Rattle.owl_axioms.specs.contracts.body.BodyPartialEq.TheImpl as body_eq
use Rattle.owl_axioms.specs.declared.body.Axiom.{Axiom}
use Rattle.owl_axioms.specs.declared.body.Body.{Body}
use Rattle.owl_axioms.specs.declared.body.Body.TheVariants as body
use Rattle.owl_axioms.specs.declared.expr.ClassExpr.{ClassExpr}
use Rattle.owl_axioms.specs.declared.expr.ClassExpr.TheOpen.{ClassExpr-F}
use Rattle.owl_axioms.specs.declared.expr.ClassExpr.TheVariants as expr
use Rattle.owl_axioms.specs.declared.expr.ClassExpr.TheViews.{out-ClassExpr}
use Rattle.relax_axioms.specs.Relaxed.{below}

-- whether two axioms say the same, as `==` tells it
abbrev pub same_body : Body → Body → Bool
same_body = body_eq.ghosts.eq

-- whether it is a class with a name
unfoldable pub is_class : ClassExpr → Bool
is_class (expr.Class iri) = true
is_class other = false

-- whether it is a class with a name, or what has some filler in one
abbrev pub relaxed_layer : ClassExpr-F ClassExpr → Bool
relaxed_layer (ClassExpr-F.Class iri) = true
relaxed_layer (ClassExpr-F.Some role part) = is_class part
relaxed_layer other = false

unfoldable pub is_relaxed : ClassExpr → Bool
is_relaxed operand = relaxed_layer (out-ClassExpr operand)

-- the class and the operands, where one is a class and the other an intersection
abbrev pub defined_layers : ClassExpr-F ClassExpr → ClassExpr-F ClassExpr → Option (List ℕ × List ClassExpr)
defined_layers (ClassExpr-F.Class class) (ClassExpr-F.And operands) = Some (class, operands)
defined_layers (ClassExpr-F.And operands) (ClassExpr-F.Class class) = Some (class, operands)
defined_layers one other = None

unfoldable pub defined_as : ClassExpr → ClassExpr → Option (List ℕ × List ClassExpr)
defined_as one other = defined_layers (out-ClassExpr one) (out-ClassExpr other)

-- of what an axiom says
unfoldable pub definition_in : Body → Option (List ℕ × List ClassExpr)
definition_in (body.Equiv one other) = defined_as one other
definition_in other = None

-- the inclusions that operands of a class imply
abbrev pub implied_by : List ℕ → List ClassExpr → List Body
implied_by class operands = map (below class) (filter is_relaxed operands)

-- that a definition implies, where there is one
abbrev pub implied_in : Option (List ℕ × List ClassExpr) → List Body
implied_in None = []
implied_in (Some definition) = implied_by definition.0 definition.1

-- that what an axiom says implies
unfoldable pub wanted_by : Body → List Body
wanted_by said = implied_in (definition_in said)

-- that axioms imply
abbrev pub all_implied : List Axiom → List Body
all_implied axioms = flat_map (λ a. wanted_by a.body) axioms

-- each once, in the place where it comes first
abbrev pub each_once : List Body → List Body
each_once [] = []
each_once (b ∷ bodies) = b ∷ filter (λ c. not (same_body b c)) (each_once bodies)

-- some axiom says it, with annotations or without
abbrev pub is_said : List Axiom → Body → Bool
is_said axioms b = list_any (λ a. same_body a.body b) axioms

-- what axioms imply and none of them says
abbrev pub missing_of : List Axiom → List Body
missing_of axioms = filter (λ b. not (is_said axioms b)) (each_once (all_implied axioms))
