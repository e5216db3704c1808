-- Restrictions: what has a filler of a class, and the two words that say it. (OBO Flat File Format 1.4, `relationship`; OWL 2
-- Structural Specification, ObjectSomeValuesFrom.)
use Rattle.std.specs.Prelude.{ℕ, List, Option, None}
use Rattle.std.specs.Option.{option_and_then, option_map}
use Rattle.obo_clause.specs.declared.clause.Value.{Value}
use Rattle.obo_clause.specs.declared.clause.Value.TheVariants as value
use Rattle.owl_axioms.specs.declared.expr.ClassExpr.{ClassExpr}
use Rattle.owl_axioms.specs.declared.expr.ClassExpr.TheOpen.{ClassExpr-F}
use Rattle.owl_axioms.specs.declared.expr.ClassExpr.TheViews.{out-ClassExpr}
use Rattle.owl_axioms.specs.declared.expr.ClassExpr.TheVariants as expr
use Rattle.obo_notes.specs.Context.{Reading, Writing}
use Rattle.obo_statements.specs.Classes.{class_id, class_read}

-- what has a filler of a class
unfoldable pub restriction : Reading → List ℕ → List ℕ → ClassExpr
restriction reading role filler = expr.Some (reading.role_iri role) (class_read reading filler)

-- the words of a restriction
abbrev pub words_of : Writing → ClassExpr-F ClassExpr → Option Value
words_of writing (ClassExpr-F.Some role part) =
    option_and_then (λ r. option_map (λ c. value.Pair r c) (class_id writing part)) (writing.role_id role)
words_of writing _ = None

unfoldable pub restriction_words : Writing → ClassExpr → Option Value
restriction_words writing one = words_of writing (out-ClassExpr one)
