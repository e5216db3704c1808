-- The clauses of a group by its values, where no operand has qualifiers that have a meaning of their own. (Own.)
use Rattle.std.specs.Prelude.{ℕ, List, [], ◌∷◌, Option, None, map}
use Rattle.std.specs.Option.{option_and_then, option_map}
use Rattle.clause_printer.specs.Printing.{value_text}
use Rattle.obo_clause.specs.declared.clause.Clause.{Clause}
use Rattle.obo_clause.specs.declared.clause.Qualifier.{Qualifier}
use Rattle.obo_clause.specs.declared.clause.Value.{Value}
use Rattle.owl_axioms.specs.declared.annotation.Side.{Side}
use Rattle.owl_axioms.specs.declared.body.Body.{Body}
use Rattle.owl_axioms.specs.declared.body.Body.TheVariants as body
use Rattle.owl_axioms.specs.declared.expr.ClassExpr.{ClassExpr}
use Rattle.text_sets.specs.Parts.{each_some}
use Rattle.text_sets.specs.Sorted.{sorted_by}
use Rattle.obo_notes.specs.Context.{Writing}
use Rattle.obo_notes.specs.Notes.{qualifiers_of}
use Rattle.obo_statements.specs.Groups.{Group, group_operands, group_tag, operand_value, other_expr}

-- the clauses of values in their order, the first with all qualifiers
abbrev pub plain_group_clauses : Group → List Qualifier → List Value → List Clause
plain_group_clauses group qualifiers [] = []
plain_group_clauses group qualifiers (one ∷ values) =
    record { tag = group_tag group; value = one; qualifiers = qualifiers } ∷ map (λ v. record { tag = group_tag group; value = v; qualifiers = [] }) values

abbrev pub plain_clauses_with : Writing → Group → List Qualifier → ClassExpr → Option (List Clause)
plain_clauses_with writing group qualifiers whole =
    option_and_then (λ operands. option_map (λ values. plain_group_clauses group qualifiers (sorted_by value_text values)) (each_some (operand_value writing group) operands))
    (group_operands group whole)

abbrev pub plain_group_in_body : Writing → List ℕ → Group → List Side → Body → Option (List Clause)
plain_group_in_body writing x group sides (body.Equiv c d) =
    option_and_then (λ qualifiers. option_and_then (plain_clauses_with writing group qualifiers) (other_expr x c d)) (qualifiers_of sides)
plain_group_in_body writing x group sides _ = None
