-- The expressions that occur in an EL part as a plain list, and the EL part of axioms as a function of them. (Own.)
use Rattle.std.specs.Prelude.{ℕ, Bool, not, List, [], ◌∷◌, ◌++◌, filter, flat_map, map}
use Rattle.owl_axioms.specs.Names.{is_top_or_bottom}
use Rattle.owl_axioms.specs.declared.body.Axiom.{Axiom}
use Rattle.owl_axioms.specs.declared.body.Body.{Body}
use Rattle.owl_axioms.specs.declared.body.Body.TheVariants as body
use Rattle.owl_axioms.specs.declared.expr.ClassExpr.{ClassExpr}
use Rattle.owl_axioms.specs.declared.expr.ClassExpr.TheFolds.{para-ClassExpr}
use Rattle.owl_axioms.specs.declared.expr.ClassExpr.TheOpen.{ClassExpr-F}
use Rattle.owl_axioms.specs.declared.expr.ClassExpr.TheVariants as expr
use Rattle.owl_axioms.specs.declared.name.Kind.{Kind}
use Rattle.owl_axioms.specs.declared.name.Kind.TheVariants as kind
use Rattle.el_rules.specs.ElPart.{el_axioms}
use Rattle.el_rules.specs.Occurs.{exprs_in}
use Rattle.el_rules.specs.Rules.{ElView}

-- what stands in the places of the parts in a layer
unfoldable pub parts_in : {A : Type 0} → ClassExpr-F A → List A
parts_in ClassExpr-F.Thing = []
parts_in ClassExpr-F.Nothing = []
parts_in (ClassExpr-F.Class iri) = []
parts_in (ClassExpr-F.And parts) = parts
parts_in (ClassExpr-F.Or parts) = parts
parts_in (ClassExpr-F.Not part) = part ∷ []
parts_in (ClassExpr-F.Some role part) = part ∷ []
parts_in (ClassExpr-F.All role part) = part ∷ []
parts_in (ClassExpr-F.Min n role part) = part ∷ []
parts_in (ClassExpr-F.Max n role part) = part ∷ []
parts_in (ClassExpr-F.Exact n role part) = part ∷ []

-- each part in a layer, and behind it what is inside of it
unfoldable pub inside_step : ClassExpr-F (ClassExpr × List ClassExpr) → List ClassExpr
inside_step layer = flat_map (λ p. p.0 ∷ p.1) (parts_in layer)

-- the parts of an expression, the parts of these, and so on
unfoldable pub inside_of : ClassExpr → List ClassExpr
inside_of = para-ClassExpr (List ClassExpr) inside_step

-- an expression and all that is inside of it
abbrev pub with_inside : ClassExpr → List ClassExpr
with_inside c = c ∷ inside_of c

-- the class of a declaration
abbrev pub class_of : Kind → List ℕ → List (List ℕ)
class_of kind.Class a = a ∷ []
class_of kind.Role a = []
class_of kind.Individual a = []
class_of kind.AnnotationProperty a = []

unfoldable pub class_declared : Body → List (List ℕ)
class_declared (body.Declaration name) = class_of name.kind name.iri
class_declared other = []

-- it is neither owl:Thing nor owl:Nothing
abbrev pub is_other_class : List ℕ → Bool
is_other_class a = not (is_top_or_bottom kind.Class a)

-- the classes that axioms declare, as often as they do, without owl:Thing and owl:Nothing
unfoldable pub declared_classes : List Axiom → List (List ℕ)
declared_classes axioms = filter is_other_class (flat_map (λ a. class_declared a.body) axioms)

-- owl:Thing, owl:Nothing, the declared classes, and the expressions that stand in the axioms of the EL part
unfoldable pub outermost_of : List Axiom → List ClassExpr
outermost_of axioms = expr.Thing ∷ expr.Nothing ∷ (map expr.Class (declared_classes axioms) ++ flat_map exprs_in (el_axioms axioms))

-- these, and all that is inside of them
unfoldable pub occurring_of : List Axiom → List ClassExpr
occurring_of axioms = flat_map with_inside (outermost_of axioms)

-- the EL part of axioms as the rules see it
unfoldable pub view_of_axioms : List Axiom → ElView
view_of_axioms axioms = record { axioms = el_axioms axioms; occurring = occurring_of axioms }
