-- The clauses of a group stand in the order of their printed values.
use Rattle.std.proofs.Common.{◌≡◌, ℕ, List, [], ◌∷◌, Some, map, refl, sym, ap, subst, ◌∙◌}
use Rattle.std.specs.Option.{option_and_then, option_map}
use Rattle.std.specs.Ordering.{ordering_then}
use Rattle.std.specs.declared.cmp.Ordering.TheVariants.{Equal}
use Rattle.std.proofs.lemmas.Option.{none-some}
use Rattle.clause_printer.specs.Printing.{block_text, value_text}
use Rattle.obo_clause.specs.declared.clause.Clause.{Clause}
use Rattle.obo_clause.specs.declared.clause.Qualifier.{Qualifier}
use Rattle.obo_clause.specs.declared.clause.Value.{Value}
use Rattle.owl_axioms.specs.declared.body.Axiom.{Axiom}
use Rattle.owl_axioms.specs.declared.body.Body.{Body}
use Rattle.owl_axioms.specs.declared.body.Body.TheVariants as body
use Rattle.text_sets.specs.Parts.{each_some}
use Rattle.text_sets.specs.Sorted.{IsBelow, IsBelowOn, Rises, RisesOn, sorted_by, texts_cmp}
use Rattle.text_sets.proofs.PartLemmas.{option_and_then_some, option_map_some}
use Rattle.text_sets.proofs.SortedLemmas.{Rises-sorted_by}
use Rattle.obo_notes.specs.Context.{Agree, Reading, Writing}
use Rattle.obo_notes.specs.Notes.{qualifiers_of}
use Rattle.obo_statements.specs.Extras.{extras_of}
use Rattle.obo_statements.specs.Groups.{Group, group_operands, group_spelling, group_tag, operand_value, other_expr}
use Rattle.obo_statements.specs.Laws.{clause_key}
use Rattle.obo_statements.specs.inner.PlainGroups.{plain_clauses_with, plain_group_clauses, plain_group_in_body}
use Rattle.obo_statements.proofs.PlainGroups.{group_is_spelled_plainly}
use Rattle.obo_statements.proofs.PlainMeaning.{no_extras, no_reserved}

abbrev clause_of : Group → Value → Clause
clause_of group v = record { tag = group_tag group; value = v; qualifiers = [] }

values_below : (group : Group) (v : Value) (key : List (List ℕ)) (vs : List Value) → key ≡ value_text v ∷ [] ∷ [] → IsBelow value_text v vs → (c : Clause) → clause_key c ≡ key → IsBelowOn texts_cmp clause_key c (map (clause_of group) vs)
values_below group v key [] is below c same = tt
values_below group v key (w ∷ vs) is below c same = (
  ap (λ k. texts_cmp k (value_text w ∷ [] ∷ [])) (same ∙ is) ∙ ap (λ o. ordering_then o Equal) below.0,
  values_below group v key vs is below.1 c same,
)

others_rise : (group : Group) (vs : List Value) → Rises value_text vs → RisesOn texts_cmp clause_key (map (clause_of group) vs)
others_rise group [] rise = tt
others_rise group (v ∷ vs) rise = (values_below group v (value_text v ∷ [] ∷ []) vs refl rise.0 (clause_of group v) refl, others_rise group vs rise.1)

clauses_rise : (group : Group) (qs : List Qualifier) (vs : List Value) → extras_of qs ≡ [] → Rises value_text vs → RisesOn texts_cmp clause_key (plain_group_clauses group qs vs)
clauses_rise group qs [] free rise = tt
clauses_rise group qs (v ∷ vs) free rise = (
  values_below group v (value_text v ∷ [] ∷ []) vs refl rise.0 (record { tag = group_tag group; value = v; qualifiers = qs }) (ap (λ extras. value_text v ∷ block_text extras ∷ []) free),
  others_rise group vs rise.1,
)

module _ (reading : Reading) (writing : Writing) (agree : Agree reading writing) (x : List ℕ) (group : Group) where
  pub group_in_key_order : (a : Axiom) (clauses : List Clause) → group_spelling writing x group a ≡ Some clauses → RisesOn texts_cmp clause_key clauses
  group_in_key_order a clauses is = by_body a.body (sym (group_is_spelled_plainly writing x group a) ∙ is)
    where
      by_body : (said : Body) → plain_group_in_body writing x group a.sides said ≡ Some clauses → RisesOn texts_cmp clause_key clauses
      by_body (body.Equiv c d) is =
          let qs = option_and_then_some (λ qualifiers. option_and_then (plain_clauses_with writing group qualifiers) (other_expr x c d)) (qualifiers_of a.sides) clauses is in
          let whole = option_and_then_some (plain_clauses_with writing group qs.0) (other_expr x c d) clauses qs.2 in
          let operands = option_and_then_some (λ operands. option_map (λ values. plain_group_clauses group qs.0 (sorted_by value_text values)) (each_some (operand_value writing group) operands)) (group_operands group whole.0) clauses whole.2 in
          let values = option_map_some (λ values. plain_group_clauses group qs.0 (sorted_by value_text values)) (each_some (operand_value writing group) operands.0) clauses operands.2 in
          subst (RisesOn texts_cmp clause_key) values.2
          (clauses_rise group qs.0 (sorted_by value_text values.0) (no_extras qs.0 (no_reserved a.sides qs.0 qs.1)) (Rises-sorted_by value_text values.0))
      by_body _ is = absurd (none-some clauses is)
