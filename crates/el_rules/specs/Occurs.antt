-- The expressions that occur in an EL part. (Own.)
use Rattle.std.specs.Prelude.{ℕ, ◌≡◌, List, [], ◌∷◌}
use Rattle.fact_rows.specs.Member.{In}
use Rattle.owl_axioms.specs.Names.{name_of}
use Rattle.owl_axioms.specs.Vocabulary.{owl_nothing, owl_thing}
use Rattle.owl_axioms.specs.declared.body.Axiom.{Axiom}
use Rattle.owl_axioms.specs.declared.body.Body.{Body}
use Rattle.owl_axioms.specs.declared.body.Body.TheVariants as body
use Rattle.owl_axioms.specs.declared.expr.ClassExpr.{ClassExpr}
use Rattle.owl_axioms.specs.declared.expr.ClassExpr.TheVariants as expr
use Rattle.owl_axioms.specs.declared.name.Kind.TheVariants as kind
use Rattle.expr_pool.specs.Part.{parts_of}
use Rattle.el_rules.specs.ElPart.{el_axioms}

-- the expressions that stand in an axiom of an EL part
unfoldable pub exprs_in : Body → List ClassExpr
exprs_in (body.Sub c d) = c ∷ d ∷ []
exprs_in (body.Disjoint c d) = c ∷ d ∷ []
exprs_in (body.Domain r c) = c ∷ []
exprs_in _ = []

-- some axiom declares the class
abbrev pub IsDeclared : List Axiom → List ℕ → Type 0
IsDeclared axioms a = (x : Axiom) × In x axioms × (x.body ≡ body.Declaration (name_of kind.Class a))

-- Thing, Nothing, each declared class, each expression that stands in an axiom of the EL part, and each part of what occurs
pub data Occurs (axioms : List Axiom) : ClassExpr → Type 0 where
  thing : Occurs axioms expr.Thing
  nothing : Occurs axioms expr.Nothing
  declared : {a : List ℕ} → IsDeclared axioms a → ¬ (a ≡ owl_thing) → ¬ (a ≡ owl_nothing) → Occurs axioms (expr.Class a)
  standing : {b : Body} {c : ClassExpr} → In b (el_axioms axioms) → In c (exprs_in b) → Occurs axioms c
  part : {c p : ClassExpr} → Occurs axioms c → In p (parts_of c) → Occurs axioms p
