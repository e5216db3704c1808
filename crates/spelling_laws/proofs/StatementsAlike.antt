-- A statement and a group have clauses in an ontology of one name exactly where they have them in one of another name.
use Rattle.std.proofs.Common.{ℕ, true, ◌&&◌, List, Some, sym, subst}
use Rattle.std.specs.Str.{bytes_eq}
use Rattle.obo_tags.specs.declared.kind.FrameKind.{FrameKind}
use Rattle.obo_clause.specs.declared.clause.Clause.{Clause}
use Rattle.obo_clause.specs.declared.clause.Qualifier.{Qualifier}
use Rattle.obo_clause.specs.declared.clause.Value.{Value}
use Rattle.obo_clause.specs.declared.clause.Value.TheVariants as value
use Rattle.owl_axioms.specs.declared.body.Axiom.{Axiom}
use Rattle.owl_axioms.specs.declared.body.Body.{Body}
use Rattle.owl_axioms.specs.declared.body.Body.TheVariants as body
use Rattle.owl_axioms.specs.declared.expr.ClassExpr.{ClassExpr}
use Rattle.owl_axioms.specs.declared.expr.ClassExpr.TheOpen.{ClassExpr-F}
use Rattle.owl_axioms.specs.declared.expr.ClassExpr.TheViews.{out-ClassExpr}
use Rattle.text_sets.specs.Parts.{each_some}
use Rattle.obo_notes.specs.Context.{Writing, where_true}
use Rattle.obo_notes.specs.Keys.{qualifier_of}
use Rattle.obo_notes.specs.Notes.{qualifiers_of}
use Rattle.obo_statements.specs.Classes.{as_id, class_id, class_iri, is_class}
use Rattle.obo_statements.specs.Extras.{Worded, qualifiers_with, worded_plainly}
use Rattle.obo_statements.specs.Groups.{Group, group_operands, group_spelling, intersection, operand_value, other_expr, union}
use Rattle.obo_statements.specs.inner.PlainGroups.{plain_clauses_with, plain_group_in_body}
use Rattle.obo_statements.proofs.PlainGroups.{group_is_spelled_plainly}
use Rattle.obo_statements.specs.Restrictions.{restriction_words, words_of}
use Rattle.obo_statements.specs.Statements.{StatementRow, statement_by, statement_spelling, statements_of}
use Rattle.obo_statements.specs.Values.{Statement, asymmetric, below_class, below_role, chain, disjoint_class, disjoint_role, functional, has_character, has_domain, has_range, inverse_functional, inverse_role, member, other_class, other_of, over, reflexive, related, restricted, same_class, same_role, symmetric, transitive, value_plainly, value_stating}
use Rattle.spelling_laws.proofs.Matching.{Alike, Any, alike_each, alike_first, alike_map, alike_or, alike_self, alike_then, alike_where, matches_behind}
use Rattle.spelling_laws.proofs.SameIds.{WriteAlike}

module _ (one other : Writing) (alike : WriteAlike one other) where
  pub class_alike : (c : ClassExpr) → Alike (class_id one c) (class_id other c)
  class_alike c = matches_behind (Any (List ℕ) (List ℕ)) one.id other.id (class_iri c) alike.ids

  class_as_id : (c : ClassExpr) → Alike (as_id (class_id one c)) (as_id (class_id other c))
  class_as_id c = alike_map value.Id value.Id (class_id one c) (class_id other c) (class_alike c)

  iri_as_id : (iri : List ℕ) → Alike (as_id (one.id iri)) (as_id (other.id iri))
  iri_as_id iri = alike_map value.Id value.Id (one.id iri) (other.id iri) (alike.ids iri)

  role_as_id : (iri : List ℕ) → Alike (as_id (one.role_id iri)) (as_id (other.role_id iri))
  role_as_id iri = alike_map value.Id value.Id (one.role_id iri) (other.role_id iri) (alike.role_ids iri)

  words_alike : (c : ClassExpr) → Alike (restriction_words one c) (restriction_words other c)
  unfolding restriction_words
  words_alike c = by_layer (out-ClassExpr c)
    where
      by_layer : (layer : ClassExpr-F ClassExpr) → Alike (words_of one layer) (words_of other layer)
      by_layer (ClassExpr-F.Some role part) =
          alike_then _ _ (one.role_id role) (other.role_id role) (alike.role_ids role) (λ r s. alike_map _ _ (class_id one part) (class_id other part) (class_alike part))
      by_layer _ = tt

  value_alike : (x : List ℕ) (s : Statement) (said : Body) → Alike (value_plainly one x s said) (value_plainly other x s said)
  unfolding value_plainly
  value_alike x below_class (body.Sub c d) = alike_where (is_class x c) _ _ (class_as_id d)
  value_alike x restricted (body.Sub c d) = alike_where (is_class x c) _ _ (words_alike d)
  value_alike x same_class (body.Equiv c d) = matches_behind (Any Value Value) (λ i. as_id (one.id i)) (λ i. as_id (other.id i)) (other_class x c d) iri_as_id
  value_alike x disjoint_class (body.Disjoint c d) = matches_behind (Any Value Value) (λ i. as_id (one.id i)) (λ i. as_id (other.id i)) (other_class x c d) iri_as_id
  value_alike x below_role (body.SubRole r s) = alike_where (bytes_eq x r) _ _ (role_as_id s)
  value_alike x same_role (body.EquivRoles r s) = matches_behind (Any Value Value) (λ i. as_id (one.role_id i)) (λ i. as_id (other.role_id i)) (other_of x r s) role_as_id
  value_alike x disjoint_role (body.DisjointRoles r s) = matches_behind (Any Value Value) (λ i. as_id (one.role_id i)) (λ i. as_id (other.role_id i)) (other_of x r s) role_as_id
  value_alike x inverse_role (body.Inverse r s) = matches_behind (Any Value Value) (λ i. as_id (one.role_id i)) (λ i. as_id (other.role_id i)) (other_of x r s) role_as_id
  value_alike x (has_character transitive) (body.Transitive r) = alike_self (where_true (bytes_eq x r) (Some (value.Bool true)))
  value_alike x (has_character reflexive) (body.Reflexive r) = alike_self (where_true (bytes_eq x r) (Some (value.Bool true)))
  value_alike x (has_character symmetric) (body.Symmetric r) = alike_self (where_true (bytes_eq x r) (Some (value.Bool true)))
  value_alike x (has_character asymmetric) (body.Asymmetric r) = alike_self (where_true (bytes_eq x r) (Some (value.Bool true)))
  value_alike x (has_character functional) (body.Functional r) = alike_self (where_true (bytes_eq x r) (Some (value.Bool true)))
  value_alike x (has_character inverse_functional) (body.InverseFunctional r) = alike_self (where_true (bytes_eq x r) (Some (value.Bool true)))
  value_alike x has_domain (body.Domain r c) = alike_where (bytes_eq x r) _ _ (class_as_id c)
  value_alike x has_range (body.Range r c) = alike_where (bytes_eq x r) _ _ (class_as_id c)
  value_alike x over (body.Chain r s t) = alike_where (bytes_eq x r && bytes_eq x t) _ _ (role_as_id s)
  value_alike x chain (body.Chain r s t) =
      alike_where (bytes_eq x t) _ _ (alike_then _ _ (one.role_id r) (other.role_id r) (alike.role_ids r) (λ a b. alike_map _ _ (one.role_id s) (other.role_id s) (alike.role_ids s)))
  value_alike x member (body.ClassAssertion c i) = alike_where (bytes_eq x i) _ _ (class_as_id c)
  value_alike x related (body.RoleAssertion r i j) =
      alike_where (bytes_eq x i) _ _ (alike_then _ _ (one.role_id r) (other.role_id r) (alike.role_ids r) (λ a b. alike_map _ _ (one.id j) (other.id j) (alike.ids j)))
  value_alike x _ _ = tt

  stating_alike : (x : List ℕ) (s : Statement) (said : Body) → Alike (value_stating one x s said) (value_stating other x s said)
  unfolding value_stating
  stating_alike x s said = alike_map worded_plainly worded_plainly (value_plainly one x s said) (value_plainly other x s said) (value_alike x s said)

  by_alike : (x : List ℕ) (a : Axiom) (row : StatementRow) → Alike (statement_by one x a row) (statement_by other x a row)
  by_alike x a row =
      alike_then _ _ (value_stating one x row.statement a.body) (value_stating other x row.statement a.body) (stating_alike x row.statement a.body)
      (λ (v w : Worded). alike_map _ _ (qualifiers_with v.extras a.sides) (qualifiers_with w.extras a.sides)
      (alike_map _ _ (each_some qualifier_of a.sides) (each_some qualifier_of a.sides) (alike_self (each_some qualifier_of a.sides))))

  pub statement_alike : (kind : FrameKind) (x : List ℕ) (a : Axiom) → Alike (statement_spelling one kind x a) (statement_spelling other kind x a)
  unfolding statement_spelling
  statement_alike kind x a = alike_first (statement_by one x a) (statement_by other x a) (statements_of kind) (by_alike x a)

  operand_alike : (group : Group) (c : ClassExpr) → Alike (operand_value one group c) (operand_value other group c)
  operand_alike union c = class_as_id c
  operand_alike intersection c = alike_or (as_id (class_id one c)) (restriction_words one c) (as_id (class_id other c)) (restriction_words other c) (class_as_id c) (words_alike c)

  operands_alike : (group : Group) (qs : List Qualifier) (whole : ClassExpr) → Alike (plain_clauses_with one group qs whole) (plain_clauses_with other group qs whole)
  operands_alike group qs whole =
      matches_behind (Any (List Clause) (List Clause)) _ _ (group_operands group whole)
      (λ operands. alike_map _ _ (each_some (operand_value one group) operands) (each_some (operand_value other group) operands) (alike_each (operand_value one group) (operand_value other group) operands (operand_alike group)))

  pub group_alike : (x : List ℕ) (group : Group) (a : Axiom) → Alike (group_spelling one x group a) (group_spelling other x group a)
  group_alike x group a =
      subst (λ o. Alike o (group_spelling other x group a)) (sym (group_is_spelled_plainly one x group a))
      (subst (λ o. Alike (plain_group_in_body one x group a.sides a.body) o) (sym (group_is_spelled_plainly other x group a)) (by_body a.body))
    where
      by_body : (said : Body) → Alike (plain_group_in_body one x group a.sides said) (plain_group_in_body other x group a.sides said)
      by_body (body.Equiv c d) =
          matches_behind (Any (List Clause) (List Clause)) _ _ (qualifiers_of a.sides)
          (λ qs. matches_behind (Any (List Clause) (List Clause)) (plain_clauses_with one group qs) (plain_clauses_with other group qs) (other_expr x c d) (operands_alike group qs))
      by_body _ = tt
