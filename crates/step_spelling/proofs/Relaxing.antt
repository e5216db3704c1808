-- Relaxing adds inclusions of declared classes: a definition that can be written is stated of its class, and each of its
-- operands can be written.
use Rattle.std.proofs.Common.{◌≡◌, ◌⊎◌, ℕ, true, false, ◌&&◌, List, [], ◌∷◌, ◌++◌, Option, None, Some, inl, inr, ⊎_elim, refl, sym, ap, subst, ◌∙◌, Contains}
use Rattle.std.specs.List.{filter_map}
use Rattle.std.specs.Option.{IsSome, option_and_then, option_map, option_map_or}
use Rattle.std.specs.Str.{bytes_eq}
use Rattle.std.proofs.lemmas.Bool.{and_parts, cases_Bool, cond-false, cond-true}
use Rattle.std.proofs.lemmas.List.{map-append}
use Rattle.std.proofs.lemmas.Option.{none-some, same_Some}
use Rattle.obo_clause.specs.declared.clause.Clause.{Clause}
use Rattle.obo_clause.specs.declared.clause.Value.{Value}
use Rattle.clause_printer.specs.Printing.{value_text}
use Rattle.text_sets.specs.Parts.{each_some}
use Rattle.text_sets.specs.Sets.{In}
use Rattle.text_sets.specs.Sorted.{sorted_by}
use Rattle.text_sets.proofs.PartLemmas.{each_some-items, first_some-found, option_and_then_some, option_map_some, some_value}
use Rattle.text_sets.proofs.SetLemmas.{In-append, In-append_left, In-from_contains, contains-from_In}
use Rattle.owl_axioms.specs.Proper.{IsProper, are_proper_sides, is_proper, is_proper_body, is_proper_expr}
use Rattle.owl_axioms.specs.declared.body.Axiom.{Axiom}
use Rattle.owl_axioms.specs.declared.body.Body.{Body}
use Rattle.owl_axioms.specs.declared.body.Body.TheVariants as body
use Rattle.owl_axioms.specs.declared.expr.ClassExpr.{ClassExpr}
use Rattle.owl_axioms.specs.declared.expr.ClassExpr.TheOpen.{ClassExpr-F}
use Rattle.owl_axioms.specs.declared.expr.ClassExpr.TheVariants as expr
use Rattle.owl_axioms.specs.declared.expr.ClassExpr.TheViews.{out-ClassExpr, out-roll-ClassExpr, roll-ClassExpr}
use Rattle.owl_axioms.specs.declared.name.Name.{Name}
use Rattle.owl_axioms.proofs.Layers.{proper_of_and}
use Rattle.owl_axioms.proofs.Making.{are_proper_operands-is}
use Rattle.owl_axioms.proofs.Members.{In-contains, passes}
use Rattle.owl_axioms.proofs.ProperAxioms.{are_proper_sides-none}
use Rattle.owl_ontology.specs.Ontology.{Entry, axioms_of}
use Rattle.obo_notes.specs.Context.{Writing, where_true}
use Rattle.obo_notes.specs.Notes.{qualifiers_of}
use Rattle.obo_notes.proofs.Guards.{where_true_some}
use Rattle.obo_statements.specs.Anchors.{anchors, class_anchor, class_entity}
use Rattle.obo_statements.specs.Classes.{as_id, class_iri, is_class}
use Rattle.obo_statements.specs.Extras.{Worded, qualifiers_with, worded_plainly}
use Rattle.obo_statements.specs.Groups.{Group, group_expr, group_operands, group_spelling, intersection, operand_value, other_expr, union}
use Rattle.obo_statements.specs.inner.PlainGroups.{plain_clauses_with, plain_group_clauses, plain_group_in_body}
use Rattle.obo_statements.proofs.PlainGroups.{group_is_spelled_plainly, worded_from_value}
use Rattle.obo_statements.specs.Statements.{statement_by, statement_spelling, statements_of}
use Rattle.obo_statements.specs.Values.{Statement, has_character, other_of, same_class, value_plainly, value_stating}
use Rattle.obo_statements.proofs.GroupsBack.{pair_in_order}
use Rattle.obo_mapping.specs.Axioms.{frame_kind}
use Rattle.obo_mapping.specs.Back.{IsSpellable, writing_of}
use Rattle.obo_mapping.specs.Documents.{declared_in}
use Rattle.obo_mapping.proofs.SinglesLaw.{IsStatement}
use Rattle.obo_mapping.proofs.SpelledLaw.{declared_among}
use Rattle.relax_axioms.specs.Relax.{step_entries}
use Rattle.relax_axioms.specs.Relaxed.{Defines, IsImplied, IsMissing, below, plain}
use Rattle.spelling_laws.specs.Laws.{IsInclusion}
use Rattle.spelling_laws.proofs.Forms.{IsFormedAt, formed_ways, statement_home}
use Rattle.spelling_laws.proofs.Homes.{GroupedAt, StatedAt, character_never}
use Rattle.spelling_laws.proofs.Inclusions.{inclusions_keep_spelling}
use Rattle.step_spelling.specs.Laws.{RelaxingKeepsSpelling}

-- ---- an intersection is no class

and_no_class : (ops : List ClassExpr) → class_iri (expr.And ops) ≡ None
unfolding class_iri
and_no_class ops = refl

out_and : (ops : List ClassExpr) → out-ClassExpr (expr.And ops) ≡ ClassExpr-F.And ops
unfolding roll-ClassExpr denote.Hole.Carrier.roll
out_and ops = out-roll-ClassExpr (ClassExpr-F.And ops)

and_not : (x : List ℕ) (ops : List ClassExpr) → is_class x (expr.And ops) ≡ false
and_not x ops = ap (λ o. option_map_or (bytes_eq x) o false) (and_no_class ops)

-- ---- so no statement says a definition

module _ (w : Writing) (x : Name) where
  abbrev no_value : Option Value
  no_value = None

  never : {P : Type 0} → IsSome no_value → P
  never some = let h : false ≡ true = some in absurd (cc)

  abbrev by_pair : Option (List ℕ) → Option (List ℕ) → Option Value
  by_pair c d = option_and_then (λ one. as_id (w.id one)) (option_and_then (λ one. option_and_then (λ two. other_of x.iri one two) d) c)

  no_first : (d : Option (List ℕ)) → by_pair None d ≡ None
  no_first d = refl

  no_second : (c : Option (List ℕ)) → by_pair c None ≡ None
  no_second None = refl
  no_second (Some one) = refl

  value_never : {P : Type 0} (s : Statement) (c d : ClassExpr) → (class_iri c ≡ None) ⊎ (class_iri d ≡ None) → IsSome (value_plainly w x.iri s (body.Equiv c d)) → P
  unfolding value_plainly
  value_never same_class c d none some =
      ⊎_elim
      (λ first. never (subst (λ o. IsSome o) (ap (λ o. by_pair o (class_iri d)) first ∙ no_first (class_iri d)) some))
      (λ second. never (subst (λ o. IsSome o) (ap (λ o. by_pair (class_iri c) o) second ∙ no_second (class_iri c)) some))
      none
  value_never (has_character character) c d none some = character_never w x character (body.Equiv c d) tt some
  value_never _ c d none some = never some

  stated_never : {P : Type 0} (a : Axiom) (c d : ClassExpr) → a.body ≡ body.Equiv c d → (class_iri c ≡ None) ⊎ (class_iri d ≡ None) → StatedAt w a x → P
  unfolding statement_spelling value_stating
  stated_never a c d is none some =
      let v = some_value (statement_spelling w (frame_kind x.kind) x.iri a) some in
      let row = first_some-found (statement_by w x.iri a) (statements_of (frame_kind x.kind)) v.0 v.1 in
      let make = λ (v : Worded). option_map (λ qualifiers. let c : Clause = record { tag = row.0.tag; value = v.value; qualifiers = qualifiers } in c) (qualifiers_with v.extras a.sides) in
      let worded = option_and_then_some make (value_stating w x.iri row.0.statement a.body) v.0 row.2 in
      let value = option_map_some worded_plainly (value_plainly w x.iri row.0.statement a.body) worded.0 worded.1 in
      value_never row.0.statement c d none (subst (λ o. IsSome o) (sym (sym (ap (value_plainly w x.iri row.0.statement) is) ∙ value.1)) refl)

  -- ---- the operands of a group that is spelled

  operand_has : (g : Group) (qs : _) (ops : List ClassExpr) (cs : List Clause) → plain_clauses_with w g qs (expr.And ops) ≡ Some cs → (operand : ClassExpr) → In operand ops → IsSome (operand_value w intersection operand)
  operand_has intersection qs ops cs is operand here =
      let os = option_and_then_some (λ operands. option_map (λ values. plain_group_clauses intersection qs (sorted_by value_text values)) (each_some (operand_value w intersection) operands)) (group_operands intersection (expr.And ops)) cs is in
      let values = option_map_some (λ values. plain_group_clauses intersection qs (sorted_by value_text values)) (each_some (operand_value w intersection) os.0) cs os.2 in
      let same : ops ≡ os.0 = same_Some ops os.0 (sym (ap (Rattle.obo_statements.specs.Groups.operands_in intersection) (out_and ops)) ∙ os.1) in
      let v = each_some-items (operand_value w intersection) os.0 values.0 values.1 operand (subst (In operand) same here) in
      subst (λ o. IsSome o) (sym v.2) refl
  operand_has union qs ops cs is operand here =
      let os = option_and_then_some (λ operands. option_map (λ values. plain_group_clauses union qs (sorted_by value_text values)) (each_some (operand_value w union) operands)) (group_operands union (expr.And ops)) cs is in
      absurd (none-some os.0 (sym (ap (Rattle.obo_statements.specs.Groups.operands_in union) (out_and ops)) ∙ os.1))

  grouped_operand : (a : Axiom) (class : List ℕ) (ops : List ClassExpr) → Defines a.body class ops → GroupedAt w a x → (operand : ClassExpr) → In operand ops → IsSome (operand_value w intersection operand)
  grouped_operand a class ops (inl is) grouped operand here =
      let g = grouped.0 in
      let v = some_value (plain_group_in_body w x.iri g a.sides (body.Equiv (expr.Class class) (expr.And ops))) (subst (λ b. IsSome (plain_group_in_body w x.iri g a.sides b)) is (subst (λ o. IsSome o) (group_is_spelled_plainly w x.iri g a) grouped.1)) in
      let qs = option_and_then_some (λ qualifiers. option_and_then (plain_clauses_with w g qualifiers) (other_expr x.iri (expr.Class class) (expr.And ops))) (qualifiers_of a.sides) v.0 v.1 in
      let whole = option_and_then_some (plain_clauses_with w g qs.0) (other_expr x.iri (expr.Class class) (expr.And ops)) v.0 qs.2 in
      let none = and_not x.iri ops in
      let same : whole.0 ≡ expr.And ops = ⊎_elim
      (λ yes. sym (same_Some (expr.And ops) whole.0 (sym (cond-true _ (Some (expr.And ops)) _ yes) ∙ whole.1)))
      (λ isnt. absurd (none-some whole.0 (ap (λ t. where_true t (Some (expr.Class class))) (sym none) ∙ sym (cond-false _ (Some (expr.And ops)) _ isnt) ∙ whole.1)))
      (cases_Bool (is_class x.iri (expr.Class class))) in
      operand_has g qs.0 ops v.0 (subst (λ e. plain_clauses_with w g qs.0 e ≡ Some v.0) same whole.2) operand here
  grouped_operand a class ops (inr is) grouped operand here =
      let g = grouped.0 in
      let v = some_value (plain_group_in_body w x.iri g a.sides (body.Equiv (expr.And ops) (expr.Class class))) (subst (λ b. IsSome (plain_group_in_body w x.iri g a.sides b)) is (subst (λ o. IsSome o) (group_is_spelled_plainly w x.iri g a) grouped.1)) in
      let qs = option_and_then_some (λ qualifiers. option_and_then (plain_clauses_with w g qualifiers) (other_expr x.iri (expr.And ops) (expr.Class class))) (qualifiers_of a.sides) v.0 v.1 in
      let whole = option_and_then_some (plain_clauses_with w g qs.0) (other_expr x.iri (expr.And ops) (expr.Class class)) v.0 qs.2 in
      let rest = sym (cond-false _ (Some (expr.Class class)) (where_true (is_class x.iri (expr.Class class)) (Some (expr.And ops))) (and_not x.iri ops)) ∙ whole.1 in
      let same : whole.0 ≡ expr.And ops = sym (same_Some (expr.And ops) whole.0 (where_true_some (is_class x.iri (expr.Class class)) (Some (expr.And ops)) whole.0 rest).1) in
      operand_has g qs.0 ops v.0 (subst (λ e. plain_clauses_with w g qs.0 e ≡ Some v.0) same whole.2) operand here

-- ---- a definition that can be written

pair_of : (said : Body) (class : List ℕ) (ops : List ClassExpr) → Defines said class ops → (c : ClassExpr) × (d : ClassExpr) × (said ≡ body.Equiv c d) × ((class_iri c ≡ None) ⊎ (class_iri d ≡ None))
pair_of said class ops (inl is) = (expr.Class class, expr.And ops, is, inr (and_no_class ops))
pair_of said class ops (inr is) = (expr.And ops, expr.Class class, is, inl (and_no_class ops))

defined_anchor : (said : Body) (class : List ℕ) (ops : List ClassExpr) → Defines said class ops → (x : Name) → In x (anchors said) → class_entity class ≡ x
unfolding anchors
defined_anchor said class ops (inl is) x here =
    ⊎_elim (λ one. ⊎_elim (λ same. same) (λ none. absurd none) one) (λ none. absurd none)
    (In-append x (class_anchor (expr.Class class)) (class_anchor (expr.And ops)) (subst (λ b. In x (anchors b)) is here))
defined_anchor said class ops (inr is) x here =
    ⊎_elim (λ none. absurd none) (λ one. ⊎_elim (λ same. same) (λ none. absurd none) one)
    (In-append x (class_anchor (expr.And ops)) (class_anchor (expr.Class class)) (subst (λ b. In x (anchors b)) is here))

defined_formed : (w : Writing) (declared : List Name) (a : Axiom) (class : List ℕ) (ops : List ClassExpr) → Defines a.body class ops → IsFormedAt w declared a
    → In (class_entity class) declared × ((operand : ClassExpr) → In operand ops → IsSome (operand_value w intersection operand))
defined_formed w declared a class ops defines is =
    let same = defined_anchor a.body class ops defines is.entity is.among in
    let pair = pair_of a.body class ops defines in (
      subst (λ n. In n declared) (sym same) (declared_among declared is.entity is.known),
      λ operand here. ⊎_elim
          (λ stated. stated_never w is.entity a pair.0 pair.1 pair.2 pair.3 stated)
          (λ (grouped : GroupedAt w a is.entity). grouped_operand w is.entity a class ops defines grouped operand here)
          is.states,
    )

-- ---- what is added is proper

operand_proper : (ops : List ClassExpr) → is_proper_expr (expr.And ops) ≡ true → (operand : ClassExpr) → Contains ops operand → is_proper_expr operand ≡ true
operand_proper ops is operand has = passes is_proper_expr operand ops (and_parts _ _ (sym (are_proper_operands-is ops) ∙ sym (proper_of_and ops) ∙ is)).1 (In-contains operand ops has)

pub below_proper : (class : List ℕ) (operand : ClassExpr) → is_proper_expr (expr.Class class) ≡ true → is_proper_expr operand ≡ true → is_proper (plain (below class operand)) ≡ true
unfolding is_proper is_proper_body
below_proper class operand one other = λ i. (one i && other i) && are_proper_sides-none i

pub body_proper : (one : Axiom) → is_proper one ≡ true → is_proper_body one.body ≡ true
unfolding is_proper
body_proper one is = (and_parts (is_proper_body one.body) (are_proper_sides one.sides) is).0

defined_proper : (said : Body) (class : List ℕ) (ops : List ClassExpr) → Defines said class ops → is_proper_body said ≡ true → (is_proper_expr (expr.Class class) ≡ true) × (is_proper_expr (expr.And ops) ≡ true)
defined_proper said class ops (inl is) proper = let p = pair_in_order (expr.Class class) (expr.And ops) (subst (λ b. is_proper_body b ≡ true) is proper) in (p.1, p.2)
defined_proper said class ops (inr is) proper = let p = pair_in_order (expr.And ops) (expr.Class class) (subst (λ b. is_proper_body b ≡ true) is proper) in (p.2, p.1)

implied_proper : (axioms : List Axiom) (class : List ℕ) (operand : ClassExpr) → ((one : Axiom) → In one axioms → IsProper one) → IsImplied axioms class operand → IsProper (plain (below class operand))
implied_proper axioms class operand proper is =
    let d = is.definition in
    let parts = defined_proper d.body class is.operands is.defines (body_proper d (proper d (In-from_contains d axioms is.stands))) in
    below_proper class operand parts.0 (operand_proper is.operands parts.1 operand is.has)

-- ---- the axioms after relaxing

step_axioms : (added : List Axiom) → axioms_of (step_entries added) ≡ added
step_axioms [] = refl
step_axioms (a ∷ added) = ap (λ rest. a ∷ rest) (step_axioms added)

axioms_with : (held : List Entry) (added : List Axiom) → axioms_of (held ++ step_entries added) ≡ axioms_of held ++ added
axioms_with held added = map-append (λ (e : Entry). e.axiom) held (step_entries added) ∙ ap (λ rest. axioms_of held ++ rest) (step_axioms added)

-- ---- the law

module _ (name : Option (List ℕ)) (axioms : List Axiom) (spellable : IsSpellable name axioms) where
  abbrev w : Writing
  w = writing_of name

  definition_formed : (a : Axiom) (class : List ℕ) (ops : List ClassExpr) → Defines a.body class ops → In a axioms → IsFormedAt w (filter_map declared_in axioms) a
  definition_formed a class ops defines here =
      let pair = pair_of a.body class ops defines in
      ⊎_elim
      (λ (stated : IsStatement a.body × IsFormedAt w (filter_map declared_in axioms) a). stated.1)
      (λ alone. statement_home w (filter_map declared_in axioms) a (subst (λ b. IsSome (Rattle.obo_mapping.specs.Axioms.body_spelled w (filter_map declared_in axioms) a b)) pair.2 alone))
      (formed_ways w (filter_map declared_in axioms) a (spellable.formed a here))

  missing_inclusion : (added : Axiom) → IsMissing axioms added → IsInclusion name axioms added
  missing_inclusion added is =
      let implied = is.implied in
      let d = implied.definition in
      let formed = defined_formed w (filter_map declared_in axioms) d is.class implied.operands implied.defines (definition_formed d is.class implied.operands implied.defines (In-from_contains d axioms implied.stands)) in
      record {
        class = is.class;
        super = is.operand;
        is = is.is;
        declared = formed.0;
        has = worded_from_value (writing_of name) intersection is.operand (formed.1 is.operand (In-from_contains is.operand implied.operands implied.has));
        proper = subst IsProper (sym is.is) (implied_proper axioms is.class is.operand spellable.proper implied);
      }

pub relaxing_keeps_spelling : RelaxingKeepsSpelling
relaxing_keeps_spelling before after count relaxes spellable =
    let axioms = axioms_of before.entries in
    let now : axioms_of after.entries ≡ axioms ++ relaxes.added = ap axioms_of relaxes.entries ∙ axioms_with before.entries relaxes.added in
    let more = inclusions_keep_spelling before.name axioms (axioms ++ relaxes.added) spellable (λ one here. In-append_left one axioms relaxes.added here)
    (λ one here. ⊎_elim (λ of. inl of) (λ new. inr (missing_inclusion before.name axioms spellable one ((relaxes.exactly one).0 (contains-from_In one relaxes.added new)))) (In-append one axioms relaxes.added here)) in
    let back = sym now in
    let named = sym relaxes.name in
    subst (λ n. IsSpellable n (axioms_of after.entries)) named (subst (IsSpellable before.name) back more)
