-- The clause of a statement is that of its tag and its value, with the qualifiers of its annotations.
use Rattle.std.proofs.Common.{◌≡◌, ℕ, List, [], ◌∷◌, Option, None, Some, refl, ◌∙◌}
use Rattle.std.specs.Option.{option_and_then, option_map, option_or}
use Rattle.obo_tags.specs.declared.kind.FrameKind.{FrameKind}
use Rattle.obo_clause.specs.declared.clause.Clause.{Clause}
use Rattle.obo_clause.specs.declared.clause.Qualifier.{Qualifier}
use Rattle.obo_clause.specs.declared.clause.Value.{Value}
use Rattle.owl_axioms.specs.declared.body.Axiom.{Axiom}
use Rattle.owl_axioms.specs.declared.body.Body.{Body}
use Rattle.text_sets.specs.Parts.{first_some}
use Rattle.obo_notes.specs.Context.{Writing}
use Rattle.obo_notes.specs.Notes.{qualifiers_of}
use Rattle.obo_statements.specs.Statements.{StatementRow, statement_spelling, statements_of}
use Rattle.obo_statements.specs.Values.{value_plainly}
use Rattle.obo_statements.specs.declared.values.Tagged.{Tagged}
use Rattle.obo_statements.specs.inner.Spelled.{tagged, tagged_by, tagged_in}
use Rattle.obo_statements.proofs.PlainMeaning.{spelling_is_plain}

abbrev pub clause_with : List Qualifier → Tagged → Clause
clause_with qualifiers said = record { tag = said.tag; value = said.value; qualifiers = qualifiers }

abbrev clause_by : List ℕ → Option (List Qualifier) → Value → Option Clause
clause_by tag qs v = option_map (λ (qualifiers : List Qualifier). let c : Clause = record { tag = tag; value = v; qualifiers = qualifiers } in c) qs

abbrev with_both : Option (List Qualifier) → Option Tagged → Option Clause
with_both qs said = option_and_then (λ qualifiers. option_map (clause_with qualifiers) said) qs

one_row : (tag : List ℕ) (qs : Option (List Qualifier)) (v : Option Value) (more : Option Clause) (rest : Option Tagged) → more ≡ with_both qs rest
    → option_or (option_and_then (clause_by tag qs) v) more ≡ with_both qs (option_or (option_map (tagged tag) v) rest)
one_row tag None None more rest is = is
one_row tag None (Some v) more rest is = is
one_row tag (Some qs) None more rest is = is
one_row tag (Some qs) (Some v) more rest is = refl

module _ (writing : Writing) (x : List ℕ) (said : Body) (qs : Option (List Qualifier)) where
  all_rows : (rows : List StatementRow) → first_some (λ (row : StatementRow). option_and_then (clause_by row.tag qs) (value_plainly writing x row.statement said)) rows ≡ with_both qs (first_some (tagged_by writing x said) rows)
  all_rows [] = none qs
    where
      none : (o : Option (List Qualifier)) → None ≡ with_both o None
      none None = refl
      none (Some q) = refl
  all_rows (row ∷ rows) = one_row row.tag qs (value_plainly writing x row.statement said) _ _ (all_rows rows)

pub statement_tagged : (writing : Writing) (kind : FrameKind) (x : List ℕ) (one : Axiom) → statement_spelling writing kind x one ≡ with_both (qualifiers_of one.sides) (tagged_in writing kind x one.body)
statement_tagged writing kind x one = spelling_is_plain writing kind x one ∙ all_rows writing x one.body (qualifiers_of one.sides) (statements_of kind)
