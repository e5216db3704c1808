-- How many tests a small part may take, worked out by hand: of six classes the first is below the second, the second below the
-- third, the third is what is of the fifth and has some filler of the sixth, and the fourth is below the first. (Own.)
use Rattle.std.specs.Prelude.{◌≡◌, Bool, true, List, [], ◌∷◌, codes, length}
use Rattle.owl_axioms.specs.declared.body.Axiom.{Axiom}
use Rattle.owl_axioms.specs.declared.body.Body.{Body}
use Rattle.owl_axioms.specs.declared.body.Body.TheVariants as body
use Rattle.owl_axioms.specs.declared.expr.ClassExpr.{ClassExpr}
use Rattle.owl_axioms.specs.declared.expr.ClassExpr.TheVariants as expr
use Rattle.module_extract.specs.Tests.{logical_part, names_number, test_bound, total}

abbrev pub first : ClassExpr
first = expr.Class (codes "1")

abbrev pub second : ClassExpr
second = expr.Class (codes "2")

abbrev pub third : ClassExpr
third = expr.Class (codes "3")

abbrev pub fourth : ClassExpr
fourth = expr.Class (codes "4")

-- of the fifth, and with some filler of the sixth
abbrev pub defined : ClassExpr
defined = expr.And (expr.Class (codes "5") ∷ expr.Some (codes "r") (expr.Class (codes "6")) ∷ [])

abbrev pub stated : Body → Axiom
stated b = record { body = b; sides = [] }

abbrev pub chain : List Axiom
chain = stated (body.Sub first second) ∷ stated (body.Sub second third) ∷ stated (body.Equiv third defined) ∷ stated (body.Sub fourth first) ∷ []

abbrev pub every : List Bool
every = true ∷ true ∷ true ∷ true ∷ []

-- four axioms, with two, two, four and two names
pub record ChainBound : Type 0 where
  pub axioms : length (logical_part chain every) ≡ 4
  pub names : total names_number (logical_part chain every) ≡ 10
  pub bound : test_bound chain every ≡ 14
