-- The classes that have a name, by their IRIs. (OWL 2 Structural Specification, section 5.1; that owl:Thing and
-- owl:Nothing are trees of their own is our own.)
use Rattle.std.specs.Prelude.{ℕ, nat_eq, if◌then◌else◌, List, Option, None, Some}
use Rattle.std.specs.Cmp.Lexicographic.{pointwise}
use Rattle.owl_axioms.specs.Vocabulary.{owl_nothing, owl_thing}
use Rattle.owl_axioms.specs.declared.expr.ClassExpr.{ClassExpr}
use Rattle.owl_axioms.specs.declared.expr.ClassExpr.TheVariants as expr

-- the class with this IRI
unfoldable pub class_named : List ℕ → ClassExpr
class_named iri =
    if pointwise nat_eq iri owl_thing then expr.Thing else (if pointwise nat_eq iri owl_nothing then expr.Nothing else expr.Class iri)

-- the IRI of a class, where the expression is one
unfoldable pub class_iri : ClassExpr → Option (List ℕ)
class_iri expr.Thing = Some owl_thing
class_iri expr.Nothing = Some owl_nothing
class_iri (expr.Class iri) = Some iri
class_iri _ = None
