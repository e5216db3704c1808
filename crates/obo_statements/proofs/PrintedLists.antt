-- The clauses of statements and groups have no xref list, and their qualifiers stand in the order of what is printed of them.
use Rattle.std.proofs.Common.{◌≡◌, ℕ, Bool, true, false, not, List, [], ◌∷◌, Some, ⊎_elim, refl, sym, ap, subst, ◌∙◌}
use Rattle.std.specs.List.{list_all}
use Rattle.std.specs.Option.{option_and_then, option_map}
use Rattle.std.proofs.lemmas.Bool.{not-true}
use Rattle.std.proofs.lemmas.Option.{none-some}
use Rattle.clause_printer.specs.Printing.{qualifier_text, value_text, xref_text}
use Rattle.obo_tags.specs.Table.{shape_of, tags_of}
use Rattle.obo_tags.specs.declared.kind.FrameKind.{FrameKind}
use Rattle.obo_tags.specs.declared.kind.FrameKind.TheVariants.{Header, Instance, Term, Typedef}
use Rattle.obo_tags.specs.declared.kind.ValueShape.{ValueShape}
use Rattle.obo_tags.specs.declared.kind.ValueShape.TheVariants as shapes
use Rattle.obo_clause.specs.Fits.{Fits, FitsShape}
use Rattle.obo_clause.specs.Spelling.{shape_at}
use Rattle.obo_clause.specs.declared.clause.Clause.{Clause}
use Rattle.obo_clause.specs.declared.clause.Qualifier.{Qualifier}
use Rattle.obo_clause.specs.declared.clause.Value.{Value}
use Rattle.obo_clause.specs.declared.clause.Value.TheVariants as value
use Rattle.owl_axioms.specs.declared.annotation.Side.{Side}
use Rattle.owl_axioms.specs.declared.body.Axiom.{Axiom}
use Rattle.owl_axioms.specs.declared.body.Body.{Body}
use Rattle.owl_axioms.specs.declared.body.Body.TheVariants as body
use Rattle.text_sets.specs.Parts.{each_some}
use Rattle.text_sets.specs.Sets.{In}
use Rattle.text_sets.specs.Sorted.{Rises, sorted_by}
use Rattle.text_sets.proofs.PartLemmas.{first_some-found, option_and_then_some, option_map_some}
use Rattle.text_sets.proofs.SetLemmas.{In-from_map}
use Rattle.text_sets.proofs.SortedLemmas.{Rises-sorted_by}
use Rattle.obo_notes.specs.Context.{Agree, Reading, Writing}
use Rattle.obo_notes.specs.Keys.{qualifier_of}
use Rattle.obo_notes.specs.Laws.{IsInPrintedOrder, xrefs_in}
use Rattle.obo_notes.specs.Notes.{qualifiers_of}
use Rattle.obo_statements.specs.Groups.{Group, group_operands, group_spelling, group_tag, intersection, operand_value, other_expr, union}
use Rattle.obo_statements.specs.inner.PlainGroups.{plain_clauses_with, plain_group_clauses, plain_group_in_body}
use Rattle.obo_statements.specs.Statements.{StatementRow, statement_spelling, statements_of}
use Rattle.obo_statements.specs.Values.{value_plainly}
use Rattle.obo_statements.proofs.PlainGroups.{group_is_spelled_plainly}
use Rattle.obo_statements.proofs.PlainMeaning.{plain_by, spelling_is_plain}
use Rattle.obo_statements.proofs.SpelledFits.{spelled_group_fits, spelled_statement_fits}
use Rattle.obo_statements.proofs.StatementsBack.{passes_in}

qualifiers_rise : (sides : List Side) (qs : List Qualifier) → qualifiers_of sides ≡ Some qs → Rises qualifier_text qs
qualifiers_rise sides qs is =
    let found = option_map_some (sorted_by qualifier_text) (each_some qualifier_of sides) qs is in
    subst (Rises qualifier_text) found.2 (Rises-sorted_by qualifier_text found.0)

-- ---- values without a list

abbrev has_list : ValueShape → Bool
has_list shapes.Def = true
has_list shapes.Synonym = true
has_list _ = false

no_list : (shape : ValueShape) (v : Value) → has_list shape ≡ false → FitsShape shape v → xrefs_in v ≡ []
unfolding xrefs_in
no_list shapes.Def v none fits = let h : true ≡ false = none in absurd (cc)
no_list shapes.Synonym v none fits = let h : true ≡ false = none in absurd (cc)
no_list _ (value.Def text xrefs) none fits = absurd fits
no_list _ (value.Synonym text scope type xrefs) none fits = absurd fits
no_list _ _ none fits = refl

fits_in_order : (kind : FrameKind) (c : Clause) → Fits kind false c → has_list (shape_at kind false c.tag) ≡ false → Rises qualifier_text c.qualifiers → IsInPrintedOrder c
fits_in_order kind c fits none rise = record { xrefs = subst (Rises xref_text) (sym (no_list (shape_at kind false c.tag) c.value none fits.value)) tt; qualifiers = rise }

-- ---- statements

abbrev has_no_list : FrameKind → StatementRow → Bool
has_no_list kind row = not (has_list (shape_at kind false row.tag))

lists_none : (kind : FrameKind) → list_all (has_no_list kind) (statements_of kind) ≡ true
unfolding statements_of tags_of shape_of
lists_none Header = refl
lists_none Term = refl
lists_none Typedef = refl
lists_none Instance = refl

group_lists_none : (group : Group) → has_list (shape_at Term false (group_tag group)) ≡ false
unfolding tags_of shape_of
group_lists_none intersection = refl
group_lists_none union = refl

module _ (reading : Reading) (writing : Writing) (agree : Agree reading writing) (x : List ℕ) where
  pub statement_in_order : (kind : FrameKind) (a : Axiom) (c : Clause) → statement_spelling writing kind x a ≡ Some c → IsInPrintedOrder c
  statement_in_order kind a c is =
      let row = first_some-found (plain_by writing x a) (statements_of kind) c (sym (spelling_is_plain writing kind x a) ∙ is) in
      let v = option_and_then_some (λ v. option_map (λ qualifiers. let d : Clause = record { tag = row.0.tag; value = v; qualifiers = qualifiers } in d) (qualifiers_of a.sides)) (value_plainly writing x row.0.statement a.body) c row.2 in
      let made = option_map_some (λ (qs : List Qualifier). let d : Clause = record { tag = row.0.tag; value = v.0; qualifiers = qs } in d) (qualifiers_of a.sides) c v.2 in
      let one : Clause = record { tag = row.0.tag; value = v.0; qualifiers = made.0 } in
      let fits : Fits kind false one = subst (Fits kind false) (sym made.2) (spelled_statement_fits reading writing agree x kind a c is) in
      let none = not-true (has_list (shape_at kind false row.0.tag)) (passes_in (has_no_list kind) (statements_of kind) row.0 (lists_none kind) row.1) in
      subst IsInPrintedOrder made.2 (fits_in_order kind one fits none (qualifiers_rise a.sides made.0 made.1))

  -- ---- groups

  record IsListed (group : Group) (c : Clause) : Type 0 where
    tag : c.tag ≡ group_tag group
    rises : Rises qualifier_text c.qualifiers

  clauses_listed : (group : Group) (qs : List Qualifier) (values : List Value) → Rises qualifier_text qs → (c : Clause) → In c (plain_group_clauses group qs values) → IsListed group c
  clauses_listed group qs [] rise c here = absurd here
  clauses_listed group qs (one ∷ values) rise c here =
      ⊎_elim
      (λ same. subst (IsListed group) same (record { tag = refl; rises = rise }))
      (λ later.
      let v = In-from_map (λ v. let d : Clause = record { tag = group_tag group; value = v; qualifiers = [] } in d) c values later in
      subst (IsListed group) v.2 (record { tag = refl; rises = tt }))
      here

  pub group_in_order : (group : Group) (a : Axiom) (clauses : List Clause) → group_spelling writing x group a ≡ Some clauses → (c : Clause) → In c clauses → IsInPrintedOrder c
  group_in_order group a clauses is c here =
      let listed = by_body a.body (sym (group_is_spelled_plainly writing x group a) ∙ is) in
      fits_in_order Term c (spelled_group_fits reading writing agree x group a clauses is c here) (ap (λ t. has_list (shape_at Term false t)) listed.tag ∙ group_lists_none group) listed.rises
    where
      by_body : (said : Body) → plain_group_in_body writing x group a.sides said ≡ Some clauses → IsListed group c
      by_body (body.Equiv p q) is =
          let qs = option_and_then_some (λ qualifiers. option_and_then (plain_clauses_with writing group qualifiers) (other_expr x p q)) (qualifiers_of a.sides) clauses is in
          let whole = option_and_then_some (plain_clauses_with writing group qs.0) (other_expr x p q) clauses qs.2 in
          let operands = option_and_then_some (λ operands. option_map (λ values. plain_group_clauses group qs.0 (sorted_by value_text values)) (each_some (operand_value writing group) operands)) (group_operands group whole.0) clauses whole.2 in
          let values = option_map_some (λ values. plain_group_clauses group qs.0 (sorted_by value_text values)) (each_some (operand_value writing group) operands.0) clauses operands.2 in
          clauses_listed group qs.0 (sorted_by value_text values.0) (qualifiers_rise a.sides qs.0 qs.1) c (subst (In c) (sym values.2) here)
      by_body _ is = absurd (none-some clauses is)
