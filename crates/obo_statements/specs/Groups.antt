-- Groups: the clauses of a Term that say one axiom together, an intersection or a union. (OBO Flat File Format 1.4,
-- `intersection_of` and `union_of`; OWL 2 Structural Specification, ObjectIntersectionOf and ObjectUnionOf.)
use Rattle.std.specs.Prelude.{ℕ, List, [], ◌∷◌, ◌++◌, codes, if◌then◌else◌, Option, None, Some, map}
use Rattle.std.specs.Option.{option_and_then, option_map, option_or}
use Rattle.std.specs.List.{flat_map}
use Rattle.clause_printer.specs.Printing.{block_text, qualifier_text, value_text}
use Rattle.obo_clause.specs.declared.clause.Clause.{Clause}
use Rattle.obo_clause.specs.declared.clause.Qualifier.{Qualifier}
use Rattle.obo_clause.specs.declared.clause.Value.{Value}
use Rattle.obo_clause.specs.declared.clause.Value.TheVariants as value
use Rattle.owl_axioms.specs.Proper.{in_order}
use Rattle.owl_axioms.specs.Text.{expr_text}
use Rattle.owl_axioms.specs.declared.annotation.Side.{Side}
use Rattle.owl_axioms.specs.declared.body.Axiom.{Axiom}
use Rattle.owl_axioms.specs.declared.body.Body.{Body}
use Rattle.owl_axioms.specs.declared.body.Body.TheVariants as body
use Rattle.owl_axioms.specs.declared.expr.ClassExpr.{ClassExpr}
use Rattle.owl_axioms.specs.declared.expr.ClassExpr.TheOpen.{ClassExpr-F}
use Rattle.owl_axioms.specs.declared.expr.ClassExpr.TheViews.{out-ClassExpr}
use Rattle.owl_axioms.specs.declared.expr.ClassExpr.TheVariants as expr
use Rattle.text_sets.specs.Parts.{each_some}
use Rattle.text_sets.specs.Sorted.{sorted_by, sorted_on, texts_cmp}
use Rattle.obo_notes.specs.Context.{Reading, Writing, where_true}
use Rattle.obo_notes.specs.Keys.{qualifier_of}
use Rattle.obo_notes.specs.Notes.{sorted_sides}
use Rattle.owl_axioms.specs.Classes.{class_named}
use Rattle.obo_statements.specs.Classes.{as_id, class_id, class_read, is_class}
use Rattle.obo_statements.specs.declared.group.Group as program
use Rattle.obo_statements.specs.declared.group.Group.TheVariants as groups
use Rattle.obo_statements.specs.Restrictions.{restriction, restriction_words}
use Rattle.obo_statements.specs.Extras.{Worded, annotations_of, extras_of, worded_plainly}

-- the two groups of a Term
pub data Group : Type 0 where
  intersection union : Group

-- the group that the program's stands for
abbrev pub group_meant : program.Group → Group
group_meant groups.Intersection = intersection
group_meant groups.Union = union

abbrev pub group_tag : Group → List ℕ
group_tag intersection = codes "intersection_of"
group_tag union = codes "union_of"

-- what a value of a group stands for, and the value that stands for it, without qualifiers that have a meaning of their own
abbrev pub operand_plainly : Reading → Group → Value → Option ClassExpr
operand_plainly reading group (value.Id id) = Some (class_read reading id)
operand_plainly reading intersection (value.Pair role id) = Some (restriction reading role id)
operand_plainly reading _ _ = None

abbrev pub operand_value : Writing → Group → ClassExpr → Option Value
operand_value writing union one = as_id (class_id writing one)
operand_value writing intersection one = option_or (as_id (class_id writing one)) (restriction_words writing one)

-- the value that stands for it, with such qualifiers: none yet
unfoldable pub operand_worded : Writing → Group → ClassExpr → Option Worded
operand_worded writing group one = option_map worded_plainly (operand_value writing group one)

-- what a value of a group stands for together with such qualifiers: with any of them, nothing yet
unfoldable pub operand_read : Reading → Group → List Qualifier → Value → Option ClassExpr
operand_read reading group [] one = operand_plainly reading group one
operand_read reading group (extra ∷ extras) one = None

-- what a clause of a group stands for
abbrev pub operand_of : Reading → Group → Clause → Option ClassExpr
operand_of reading group clause = operand_read reading group (extras_of clause.qualifiers) clause.value

abbrev pub group_expr : Group → List ClassExpr → ClassExpr
group_expr intersection operands = expr.And operands
group_expr union operands = expr.Or operands

-- the operands of an expression that is such a group
abbrev pub operands_in : Group → ClassExpr-F ClassExpr → Option (List ClassExpr)
operands_in intersection (ClassExpr-F.And operands) = Some operands
operands_in union (ClassExpr-F.Or operands) = Some operands
operands_in _ _ = None

abbrev pub group_operands : Group → ClassExpr → Option (List ClassExpr)
group_operands group one = operands_in group (out-ClassExpr one)

abbrev pub expr_pair : ClassExpr → ClassExpr → Body
expr_pair one other = if in_order (expr_text one) (expr_text other) then body.Equiv one other else body.Equiv other one

-- the axiom of all clauses of a group: the operands by their texts, each once; all qualifiers are annotations of it
unfoldable pub group_meaning : Reading → List ℕ → Group → List Clause → Option Axiom
group_meaning reading x group clauses =
    option_map (λ operands. record {
      body = expr_pair (class_named x) (group_expr group (sorted_by expr_text operands));
      sides = sorted_sides (flat_map (λ (clause : Clause). annotations_of clause.qualifiers) clauses);
    }) (each_some (operand_of reading group) clauses)

-- what an operand is ordered by: its printed value, and then the printed block of such qualifiers alone
abbrev pub worded_key : Worded → List (List ℕ)
worded_key one = value_text one.value ∷ block_text one.extras ∷ []

-- the clause of an operand, with further qualifiers
abbrev pub worded_clause : Group → List Qualifier → Worded → Clause
worded_clause group qualifiers one =
    record { tag = group_tag group; value = one.value; qualifiers = sorted_by qualifier_text (one.extras ++ qualifiers) }

-- the clauses of operands in their order, the first with all further qualifiers
abbrev pub group_clauses : Group → List Qualifier → List Worded → List Clause
group_clauses group qualifiers [] = []
group_clauses group qualifiers (one ∷ others) = worded_clause group qualifiers one ∷ map (worded_clause group []) others

abbrev pub clauses_with : Writing → Group → List Qualifier → ClassExpr → Option (List Clause)
clauses_with writing group qualifiers whole =
    option_and_then (λ operands. option_map (λ words. group_clauses group qualifiers (sorted_on texts_cmp worded_key words)) (each_some (operand_worded writing group) operands))
    (group_operands group whole)

-- the other expression of a pair
abbrev pub other_expr : List ℕ → ClassExpr → ClassExpr → Option ClassExpr
other_expr x c d = if is_class x c then Some d else where_true (is_class x d) (Some c)

abbrev pub group_in_body : Writing → List ℕ → Group → List Side → Body → Option (List Clause)
group_in_body writing x group sides (body.Equiv c d) =
    option_and_then (λ qualifiers. option_and_then (clauses_with writing group qualifiers) (other_expr x c d)) (each_some qualifier_of sides)
group_in_body writing x group sides _ = None

unfoldable pub group_spelling : Writing → List ℕ → Group → Axiom → Option (List Clause)
group_spelling writing x group one = group_in_body writing x group one.sides one.body
