-- Anchors: the entities in whose frames an axiom may be stated. (Own.)
use Rattle.std.specs.Prelude.{ℕ, List, [], ◌∷◌, ◌++◌}
use Rattle.owl_axioms.specs.Vocabulary.{owl_nothing, owl_thing}
use Rattle.owl_axioms.specs.declared.body.Body.{Body}
use Rattle.owl_axioms.specs.declared.body.Body.TheVariants as body
use Rattle.owl_axioms.specs.declared.expr.ClassExpr.{ClassExpr}
use Rattle.owl_axioms.specs.declared.expr.ClassExpr.TheVariants as expr
use Rattle.owl_axioms.specs.declared.name.Kind.TheVariants as kinds
use Rattle.owl_axioms.specs.declared.name.Name.{Name}

abbrev pub class_entity : List ℕ → Name
class_entity iri = record { kind = kinds.Class; iri = iri }

abbrev pub role_entity : List ℕ → Name
role_entity iri = record { kind = kinds.Role; iri = iri }

abbrev pub individual_entity : List ℕ → Name
individual_entity iri = record { kind = kinds.Individual; iri = iri }

abbrev pub class_anchor : ClassExpr → List Name
class_anchor expr.Thing = class_entity owl_thing ∷ []
class_anchor expr.Nothing = class_entity owl_nothing ∷ []
class_anchor (expr.Class iri) = class_entity iri ∷ []
class_anchor _ = []

-- one entity, and two of a symmetric axiom: then the frame is that of the least id, of those that are declared
unfoldable pub anchors : Body → List Name
anchors (body.Sub c d) = class_anchor c
anchors (body.Equiv c d) = class_anchor c ++ class_anchor d
anchors (body.Disjoint c d) = class_anchor c ++ class_anchor d
anchors (body.SubRole r s) = role_entity r ∷ []
anchors (body.Chain r s t) = role_entity t ∷ []
anchors (body.EquivRoles r s) = role_entity r ∷ role_entity s ∷ []
anchors (body.DisjointRoles r s) = role_entity r ∷ role_entity s ∷ []
anchors (body.Inverse r s) = role_entity r ∷ role_entity s ∷ []
anchors (body.Transitive r) = role_entity r ∷ []
anchors (body.Reflexive r) = role_entity r ∷ []
anchors (body.Symmetric r) = role_entity r ∷ []
anchors (body.Asymmetric r) = role_entity r ∷ []
anchors (body.Functional r) = role_entity r ∷ []
anchors (body.InverseFunctional r) = role_entity r ∷ []
anchors (body.Domain r c) = role_entity r ∷ []
anchors (body.Range r c) = role_entity r ∷ []
anchors (body.ClassAssertion c i) = individual_entity i ∷ []
anchors (body.RoleAssertion r i j) = individual_entity i ∷ []
anchors (body.Declaration name) = name ∷ []
anchors (body.Note subject property noted) = subject ∷ []
anchors (body.OntologyNote property noted) = []
