-- The clauses of a group say its axiom, also in another order.
use Rattle.std.proofs.Common.{◌≡◌, ◌&&◌, ℕ, true, List, [], ◌∷◌, Some, ⊎_elim, refl, sym, ap, subst, ◌∙◌}
use Rattle.std.specs.Option.{option_and_then, option_map}
use Rattle.std.proofs.lemmas.Bool.{and_parts}
use Rattle.std.proofs.lemmas.Option.{none-some}
use Rattle.clause_printer.specs.Printing.{value_text}
use Rattle.obo_clause.specs.declared.clause.Clause.{Clause}
use Rattle.obo_clause.specs.declared.clause.Qualifier.{Qualifier}
use Rattle.obo_clause.specs.declared.clause.Value.{Value}
use Rattle.owl_axioms.specs.Proper.{in_order, is_proper_body, is_proper_expr, is_proper_pair}
use Rattle.owl_axioms.specs.Text.{expr_text, side_text}
use Rattle.owl_axioms.specs.declared.annotation.Side.{Side}
use Rattle.owl_axioms.specs.declared.body.Axiom.{Axiom}
use Rattle.owl_axioms.specs.declared.body.Body.{Body}
use Rattle.owl_axioms.specs.declared.body.Body.TheVariants as body
use Rattle.owl_axioms.specs.declared.expr.ClassExpr.{ClassExpr}
use Rattle.text_sets.specs.Parts.{each_some}
use Rattle.text_sets.specs.Sets.{In, SameMembers}
use Rattle.text_sets.specs.Sorted.{Rises, sorted_by}
use Rattle.text_sets.proofs.PartLemmas.{option_and_then_some, option_map_some}
use Rattle.text_sets.proofs.SetLemmas.{In-from_map}
use Rattle.obo_notes.specs.Context.{Agree, Reading, Writing}
use Rattle.obo_notes.specs.Notes.{qualifiers_of}
use Rattle.obo_statements.specs.Extras.{extras_of}
use Rattle.obo_statements.specs.Groups.{Group, group_meaning, group_operands, group_spelling, group_tag, operand_value, other_expr}
use Rattle.obo_statements.specs.inner.PlainGroups.{plain_clauses_with, plain_group_clauses, plain_group_in_body}
use Rattle.obo_statements.proofs.GroupLaws.{IsRising, group_has_clause, group_reads_set}
use Rattle.obo_statements.proofs.PlainGroups.{group_is_spelled_plainly}
use Rattle.obo_statements.proofs.PlainMeaning.{group_is_plain, no_extras, no_reserved}
use Rattle.obo_statements.proofs.Rising.{group_rises}

pub pair_in_order : (c d : ClassExpr) → is_proper_body (body.Equiv c d) ≡ true → (in_order (expr_text c) (expr_text d) ≡ true) × (is_proper_expr c ≡ true) × (is_proper_expr d ≡ true)
unfolding is_proper_body is_proper_pair
pair_in_order c d is =
    let outer = and_parts (is_proper_expr c && is_proper_expr d) (in_order (expr_text c) (expr_text d)) is in
    let inner = and_parts (is_proper_expr c) (is_proper_expr d) outer.0 in
    (outer.1, inner.0, inner.1)

-- ---- the clauses have no qualifiers with a meaning of their own

clauses_free : (group : Group) (qs : List Qualifier) (values : List Value) → extras_of qs ≡ [] → (clause : Clause) → In clause (plain_group_clauses group qs values) → extras_of clause.qualifiers ≡ []
clauses_free group qs [] free clause here = absurd here
clauses_free group qs (one ∷ values) free clause here =
    ⊎_elim
    (λ same. subst (λ (c : Clause). extras_of c.qualifiers ≡ []) same free)
    (λ later.
    let v = In-from_map (λ v. let c : Clause = record { tag = group_tag group; value = v; qualifiers = [] } in c) clause values later in
    subst (λ (c : Clause). extras_of c.qualifiers ≡ []) v.2 refl)
    here

group_free : (writing : Writing) (x : List ℕ) (group : Group) (c d : ClassExpr) (sides : List Side) (clauses : List Clause) → plain_group_in_body writing x group sides (body.Equiv c d) ≡ Some clauses
    → (clause : Clause) → In clause clauses → extras_of clause.qualifiers ≡ []
group_free writing x group c d sides clauses is clause here =
    let qs = option_and_then_some (λ qualifiers. option_and_then (plain_clauses_with writing group qualifiers) (other_expr x c d)) (qualifiers_of sides) clauses is in
    let whole = option_and_then_some (plain_clauses_with writing group qs.0) (other_expr x c d) clauses qs.2 in
    let operands = option_and_then_some (λ operands. option_map (λ values. plain_group_clauses group qs.0 (sorted_by value_text values)) (each_some (operand_value writing group) operands)) (group_operands group whole.0) clauses whole.2 in
    let values = option_map_some (λ values. plain_group_clauses group qs.0 (sorted_by value_text values)) (each_some (operand_value writing group) operands.0) clauses operands.2 in
    clauses_free group qs.0 (sorted_by value_text values.0) (no_extras qs.0 (no_reserved sides qs.0 qs.1)) clause (subst (In clause) (sym values.2) here)

-- ---- a group is of two expressions that stand for each other

pub group_equates : (writing : Writing) (x : List ℕ) (group : Group) (a : Axiom) (clauses : List Clause) → group_spelling writing x group a ≡ Some clauses → (c : ClassExpr) × (d : ClassExpr) × (a.body ≡ body.Equiv c d)
group_equates writing x group a clauses is = by_body a.body (sym (group_is_spelled_plainly writing x group a) ∙ is)
  where
    by_body : (said : Body) → plain_group_in_body writing x group a.sides said ≡ Some clauses → (c : ClassExpr) × (d : ClassExpr) × (said ≡ body.Equiv c d)
    by_body (body.Equiv c d) is = (c, d, refl)
    by_body _ is = absurd (none-some clauses is)

-- ---- the law

first_of : ClassExpr → Body → ClassExpr
first_of other (body.Equiv c d) = c
first_of other _ = other

second_of : ClassExpr → Body → ClassExpr
second_of other (body.Equiv c d) = d
second_of other _ = other

module _ (reading : Reading) (writing : Writing) (agree : Agree reading writing) (group : Group) where
  rising : (c d : ClassExpr) → is_proper_body (body.Equiv c d) ≡ true → IsRising reading writing agree group (body.Equiv c d)
  unfolding first_of second_of
  rising c d proper =
      let parts = pair_in_order c d proper in
      record {
        rising = λ c' d' whole operands same which operands_are.
            let c_is : c ≡ c' = ap (first_of c) same in
            let d_is : d ≡ d' = ap (second_of d) same in
            group_rises group whole operands operands_are
            (⊎_elim (λ w_is. ap is_proper_expr (w_is ∙ sym c_is) ∙ parts.1) (λ w_is. ap is_proper_expr (w_is ∙ sym d_is) ∙ parts.2) which);
      }

  -- any list with the clauses of a group says its axiom, and there is a clause
  pub group_reads_back : (x : List ℕ) (a : Axiom) (clauses others : List Clause) → is_proper_body a.body ≡ true → Rises side_text a.sides → group_spelling writing x group a ≡ Some clauses → SameMembers others clauses
      → (group_meaning reading x group others ≡ Some a) × ((c : Clause) × In c clauses)
  group_reads_back x a clauses others proper rises is same = by_body a.body a.sides proper rises (sym (group_is_spelled_plainly writing x group a) ∙ is)
    where
      by_body : (said : Body) (sides : List Side) → is_proper_body said ≡ true → Rises side_text sides → plain_group_in_body writing x group sides said ≡ Some clauses
          → (group_meaning reading x group others ≡ Some (record { body = said; sides = sides })) × ((c : Clause) × In c clauses)
      by_body (body.Equiv c d) sides proper rises is = (
        group_is_plain reading x group others (λ clause here. group_free writing x group c d sides clauses is clause ((same clause).0 here))
            ∙ group_reads_set reading writing agree group x c d sides clauses others (pair_in_order c d proper).0 (rising c d proper) rises is same,
        group_has_clause reading writing agree group x c d sides clauses (rising c d proper) is,
      )
      by_body _ sides proper rises is = absurd (none-some clauses is)
