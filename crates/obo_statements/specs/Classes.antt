-- Classes by their ids: the class that an id names, and the id of a class. (OBO Flat File Format 1.4, its mapping to OWL 2;
-- owl:Thing and owl:Nothing are classes of the OWL 2 Structural Specification.)
use Rattle.std.specs.Prelude.{ℕ, Bool, false, List, Option, None, Some}
use Rattle.std.specs.Option.{option_and_then, option_map, option_map_or}
use Rattle.std.specs.Str.{bytes_eq}
use Rattle.obo_clause.specs.declared.clause.Value.{Value}
use Rattle.obo_clause.specs.declared.clause.Value.TheVariants as value
use Rattle.owl_axioms.specs.Classes.{class_named}
use Rattle.owl_axioms.specs.Proper.{is_class_iri}
use Rattle.owl_axioms.specs.Vocabulary.{owl_nothing, owl_thing}
use Rattle.owl_axioms.specs.declared.expr.ClassExpr.{ClassExpr}
use Rattle.owl_axioms.specs.declared.expr.ClassExpr.TheVariants as expr
use Rattle.obo_notes.specs.Context.{Reading, Writing, where_true}

-- the IRI of a class, where the expression is one
unfoldable pub class_iri : ClassExpr → Option (List ℕ)
class_iri expr.Thing = Some owl_thing
class_iri expr.Nothing = Some owl_nothing
class_iri (expr.Class iri) = where_true (is_class_iri iri) (Some iri)
class_iri _ = None

-- the id of a class
abbrev pub class_id : Writing → ClassExpr → Option (List ℕ)
class_id writing one = option_and_then writing.id (class_iri one)

-- the expression is the class with this IRI
abbrev pub is_class : List ℕ → ClassExpr → Bool
is_class iri one = option_map_or (bytes_eq iri) (class_iri one) false

-- the class with this id
abbrev pub class_read : Reading → List ℕ → ClassExpr
class_read reading id = class_named (reading.iri id)

abbrev pub as_id : Option (List ℕ) → Option Value
as_id id = option_map value.Id id
