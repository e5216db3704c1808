-- The tag and the value of a statement, before its annotations are qualifiers. (Own.)
use Rattle.std.specs.Prelude.{ℕ, List, [], ◌∷◌, codes, Option}
use Rattle.std.specs.Option.{option_and_then, option_map}
use Rattle.obo_tags.specs.declared.kind.FrameKind.{FrameKind}
use Rattle.obo_clause.specs.declared.clause.Clause.{Clause}
use Rattle.obo_clause.specs.declared.clause.Value.{Value}
use Rattle.obo_clause.specs.declared.clause.Value.TheVariants as value
use Rattle.owl_axioms.specs.declared.body.Body.{Body}
use Rattle.owl_axioms.specs.declared.expr.ClassExpr.{ClassExpr}
use Rattle.clause_printer.specs.Printing.{value_text}
use Rattle.text_sets.specs.Parts.{each_some, first_some}
use Rattle.text_sets.specs.Sorted.{sorted_by}
use Rattle.obo_notes.specs.Context.{Writing}
use Rattle.obo_statements.specs.Groups.{Group, group_operands, group_tag, operand_value}
use Rattle.obo_statements.specs.Statements.{StatementRow, says, statements_of}
use Rattle.obo_statements.specs.Values.{disjoint_role, inverse_role, same_role, value_plainly}
use Rattle.obo_statements.specs.declared.values.Tagged.{Tagged}

abbrev pub tagged : List ℕ → Value → Tagged
tagged tag one = record { tag = tag; value = one }

abbrev pub tagged_by : Writing → List ℕ → Body → StatementRow → Option Tagged
tagged_by writing x said row = option_map (tagged row.tag) (value_plainly writing x row.statement said)

-- the tag and the value by which the entity with this IRI states what an axiom says
abbrev pub tagged_in : Writing → FrameKind → List ℕ → Body → Option Tagged
tagged_in writing kind x said = first_some (tagged_by writing x said) (statements_of kind)

-- of two roles in any order
abbrev pub tagged_pair : Writing → List ℕ → Body → Option Tagged
tagged_pair writing x said =
    first_some (tagged_by writing x said)
    (says (codes "equivalent_to") same_role ∷ says (codes "disjoint_from") disjoint_role ∷ says (codes "inverse_of") inverse_role ∷ [])

-- the ids of a role and of another entity
abbrev pub ids_of : Writing → List ℕ → List ℕ → Option Value
ids_of writing role other = option_and_then (λ one. option_map (λ two. value.Pair one two) (writing.id other)) (writing.role_id role)

-- a clause of a group without qualifiers
abbrev pub plain_clause : Group → Value → Clause
plain_clause group one = record { tag = group_tag group; value = one; qualifiers = [] }

-- the values of a group in the order of what is printed of them
abbrev pub sorted_values : Writing → Group → ClassExpr → Option (List Value)
sorted_values writing group whole =
    option_and_then (λ operands. option_map (sorted_by value_text) (each_some (operand_value writing group) operands)) (group_operands group whole)
