-- The clauses of a group are those of its values.
use Rattle.std.proofs.Common.{◌≡◌, List, Option, None, Some, refl}
use Rattle.std.specs.Option.{option_and_then, option_map}
use Rattle.clause_printer.specs.Printing.{value_text}
use Rattle.obo_clause.specs.declared.clause.Qualifier.{Qualifier}
use Rattle.owl_axioms.specs.declared.expr.ClassExpr.{ClassExpr}
use Rattle.text_sets.specs.Parts.{each_some}
use Rattle.text_sets.specs.Sorted.{sorted_by}
use Rattle.obo_notes.specs.Context.{Writing}
use Rattle.obo_statements.specs.Groups.{Group, group_operands, operand_value}
use Rattle.obo_statements.specs.inner.PlainGroups.{plain_clauses_with, plain_group_clauses}
use Rattle.obo_statements.specs.inner.Spelled.{sorted_values}

map_twice : {X Y Z : Type 0} (f : X → Y) (g : Y → Z) (o : Option X) → option_map (λ x. g (f x)) o ≡ option_map g (option_map f o)
map_twice f g None = refl
map_twice f g (Some x) = refl

pub group_by_values : (writing : Writing) (group : Group) (qualifiers : List Qualifier) (whole : ClassExpr) → plain_clauses_with writing group qualifiers whole ≡ option_map (plain_group_clauses group qualifiers) (sorted_values writing group whole)
group_by_values writing group qualifiers whole = by_operands (group_operands group whole)
  where
    by_operands : (o : Option (List ClassExpr)) → option_and_then (λ operands. option_map (λ values. plain_group_clauses group qualifiers (sorted_by value_text values)) (each_some (operand_value writing group) operands)) o
        ≡ option_map (plain_group_clauses group qualifiers) (option_and_then (λ operands. option_map (sorted_by value_text) (each_some (operand_value writing group) operands)) o)
    by_operands None = refl
    by_operands (Some operands) = map_twice (sorted_by value_text) (plain_group_clauses group qualifiers) (each_some (operand_value writing group) operands)
