-- A group is spelled by its values: no operand has qualifiers that have a meaning of their own.
use Rattle.std.proofs.Common.{◌≡◌, ℕ, List, [], ◌∷◌, Option, None, Some, map, refl, ap, ◌∙◌}
use Rattle.std.specs.BTreeSet.{insert_key}
use Rattle.std.specs.Option.{IsSome, option_and_then, option_map}
use Rattle.std.specs.Ordering.{match_ordering, ordering_then}
use Rattle.std.specs.declared.cmp.Ordering.{Ordering}
use Rattle.std.specs.declared.cmp.Ordering.TheVariants.{Equal, Greater, Less}
use Rattle.clause_printer.specs.Printing.{qualifier_text, value_text}
use Rattle.obo_clause.specs.declared.clause.Clause.{Clause}
use Rattle.obo_clause.specs.declared.clause.Qualifier.{Qualifier}
use Rattle.obo_clause.specs.declared.clause.Value.{Value}
use Rattle.owl_axioms.specs.declared.annotation.Side.{Side}
use Rattle.owl_axioms.specs.declared.body.Axiom.{Axiom}
use Rattle.owl_axioms.specs.declared.body.Body.{Body}
use Rattle.owl_axioms.specs.declared.body.Body.TheVariants as body
use Rattle.owl_axioms.specs.declared.expr.ClassExpr.{ClassExpr}
use Rattle.text_sets.specs.Parts.{each_some}
use Rattle.text_sets.specs.Sorted.{by_key, by_text, sorted_by, sorted_on, texts_cmp}
use Rattle.obo_notes.specs.Context.{Writing}
use Rattle.obo_notes.specs.Keys.{qualifier_of}
use Rattle.obo_statements.specs.Extras.{worded_plainly}
use Rattle.obo_statements.specs.Groups.{Group, clauses_with, group_clauses, group_in_body, group_operands, group_spelling, group_tag, operand_value, operand_worded, other_expr, worded_clause, worded_key}
use Rattle.obo_statements.specs.inner.PlainGroups.{plain_clauses_with, plain_group_clauses, plain_group_in_body}

-- ---- the order

then_equal : (o : Ordering) → ordering_then o Equal ≡ o
then_equal Less = refl
then_equal Equal = refl
then_equal Greater = refl

pub same_order : (v w : Value) → by_key texts_cmp worded_key (worded_plainly v) (worded_plainly w) ≡ by_text value_text v w
same_order v w = then_equal (by_text value_text v w)

put_plainly : (vs : List Value) (v : Value) → insert_key (by_key texts_cmp worded_key) (map worded_plainly vs) (worded_plainly v) ≡ map worded_plainly (insert_key (by_text value_text) vs v)
put_plainly [] v = refl
put_plainly (w ∷ vs) v =
    (λ i. match_ordering (same_order v w i) (worded_plainly v ∷ worded_plainly w ∷ map worded_plainly vs) (worded_plainly w ∷ map worded_plainly vs) (worded_plainly w ∷ put_plainly vs v i))
    ∙ by_case (by_text value_text v w)
  where
    by_case : (o : Ordering) → match_ordering o (worded_plainly v ∷ worded_plainly w ∷ map worded_plainly vs) (worded_plainly w ∷ map worded_plainly vs) (worded_plainly w ∷ map worded_plainly (insert_key (by_text value_text) vs v))
        ≡ map worded_plainly (match_ordering o (v ∷ w ∷ vs) (w ∷ vs) (w ∷ insert_key (by_text value_text) vs v))
    by_case Less = refl
    by_case Equal = refl
    by_case Greater = refl

sorted_plainly : (vs : List Value) → sorted_on texts_cmp worded_key (map worded_plainly vs) ≡ map worded_plainly (sorted_by value_text vs)
unfolding sorted_on
sorted_plainly [] = refl
sorted_plainly (v ∷ vs) =
    ap (λ words. insert_key (by_key texts_cmp worded_key) words (worded_plainly v)) (sorted_plainly vs) ∙ put_plainly (sorted_by value_text vs) v

-- ---- an operand has words where it has a value

pub worded_from_value : (writing : Writing) (group : Group) (one : ClassExpr) → IsSome (operand_value writing group one) → IsSome (operand_worded writing group one)
unfolding operand_worded
worded_from_value writing group one = by_value (operand_value writing group one)
  where
    by_value : (o : Option Value) → IsSome o → IsSome (option_map worded_plainly o)
    by_value None some = some
    by_value (Some v) some = refl

pub value_from_worded : (writing : Writing) (group : Group) (one : ClassExpr) → IsSome (operand_worded writing group one) → IsSome (operand_value writing group one)
unfolding operand_worded
value_from_worded writing group one = by_value (operand_value writing group one)
  where
    by_value : (o : Option Value) → IsSome (option_map worded_plainly o) → IsSome o
    by_value None some = some
    by_value (Some v) some = refl

-- ---- the clauses

others_plainly : (group : Group) (vs : List Value) → map (worded_clause group []) (map worded_plainly vs) ≡ map (λ v. let c : Clause = record { tag = group_tag group; value = v; qualifiers = [] } in c) vs
unfolding sorted_on
others_plainly group [] = refl
others_plainly group (v ∷ vs) = ap (λ more. let c : Clause = record { tag = group_tag group; value = v; qualifiers = [] } in c ∷ more) (others_plainly group vs)

clauses_plainly : (group : Group) (qs : List Qualifier) (vs : List Value) → group_clauses group qs (map worded_plainly vs) ≡ plain_group_clauses group (sorted_by qualifier_text qs) vs
clauses_plainly group qs [] = refl
clauses_plainly group qs (v ∷ vs) =
    ap (λ more. let c : Clause = record { tag = group_tag group; value = v; qualifiers = sorted_by qualifier_text qs } in c ∷ more) (others_plainly group vs)

each_worded : (writing : Writing) (group : Group) (operands : List ClassExpr) → each_some (operand_worded writing group) operands ≡ option_map (map worded_plainly) (each_some (operand_value writing group) operands)
unfolding operand_worded
each_worded writing group [] = refl
each_worded writing group (one ∷ operands) =
    ap (λ o. option_and_then (λ y. option_map (λ ys. y ∷ ys) o) (option_map worded_plainly (operand_value writing group one))) (each_worded writing group operands)
    ∙ by_parts (operand_value writing group one) (each_some (operand_value writing group) operands)
  where
    by_parts : (o : Option Value) (os : Option (List Value)) → option_and_then (λ y. option_map (λ ys. y ∷ ys) (option_map (map worded_plainly) os)) (option_map worded_plainly o)
        ≡ option_map (map worded_plainly) (option_and_then (λ y. option_map (λ ys. y ∷ ys) os) o)
    by_parts None os = refl
    by_parts (Some v) None = refl
    by_parts (Some v) (Some vs) = refl

with_plainly : (writing : Writing) (group : Group) (qs : List Qualifier) (whole : ClassExpr) → clauses_with writing group qs whole ≡ plain_clauses_with writing group (sorted_by qualifier_text qs) whole
with_plainly writing group qs whole = by_operands (group_operands group whole)
  where
    made : (o : Option (List Value)) → option_map (λ words. group_clauses group qs (sorted_on texts_cmp worded_key words)) (option_map (map worded_plainly) o)
        ≡ option_map (λ values. plain_group_clauses group (sorted_by qualifier_text qs) (sorted_by value_text values)) o
    made None = refl
    made (Some vs) = ap Some (ap (group_clauses group qs) (sorted_plainly vs) ∙ clauses_plainly group qs (sorted_by value_text vs))

    by_operands : (o : Option (List ClassExpr)) → option_and_then (λ operands. option_map (λ words. group_clauses group qs (sorted_on texts_cmp worded_key words)) (each_some (operand_worded writing group) operands)) o
        ≡ option_and_then (λ operands. option_map (λ values. plain_group_clauses group (sorted_by qualifier_text qs) (sorted_by value_text values)) (each_some (operand_value writing group) operands)) o
    by_operands None = refl
    by_operands (Some operands) =
        ap (option_map (λ words. group_clauses group qs (sorted_on texts_cmp worded_key words))) (each_worded writing group operands)
        ∙ made (each_some (operand_value writing group) operands)

-- ---- the spelling

body_plainly : (writing : Writing) (x : List ℕ) (group : Group) (sides : List Side) (said : Body) → group_in_body writing x group sides said ≡ plain_group_in_body writing x group sides said
body_plainly writing x group sides (body.Equiv c d) = by_qualifiers (each_some qualifier_of sides)
  where
    by_other : (qs : List Qualifier) (o : Option ClassExpr) → option_and_then (clauses_with writing group qs) o ≡ option_and_then (plain_clauses_with writing group (sorted_by qualifier_text qs)) o
    by_other qs None = refl
    by_other qs (Some whole) = with_plainly writing group qs whole

    by_qualifiers : (o : Option (List Qualifier)) → option_and_then (λ qualifiers. option_and_then (clauses_with writing group qualifiers) (other_expr x c d)) o
        ≡ option_and_then (λ qualifiers. option_and_then (plain_clauses_with writing group qualifiers) (other_expr x c d)) (option_map (sorted_by qualifier_text) o)
    by_qualifiers None = refl
    by_qualifiers (Some qs) = by_other qs (other_expr x c d)
body_plainly writing x group sides _ = refl

pub group_is_spelled_plainly : (writing : Writing) (x : List ℕ) (group : Group) (a : Axiom) → group_spelling writing x group a ≡ plain_group_in_body writing x group a.sides a.body
unfolding group_spelling
group_is_spelled_plainly writing x group a = body_plainly writing x group a.sides a.body
