-- Inclusions of declared classes can be added to what can be written.
use Rattle.std.proofs.Common.{◌≡◌, ℕ, Bool, true, false, List, [], Option, None, Some, inl, inr, ⊎_elim, refl, sym, ap, subst, ◌∙◌}
use Rattle.std.specs.List.{filter_map}
use Rattle.std.specs.Option.{IsSome, option_and_then, option_map, option_map_or}
use Rattle.std.specs.Str.{bytes_eq}
use Rattle.std.proofs.lemmas.Bool.{and_parts}
use Rattle.iri_map.proofs.CandidateLemmas.{bytes_eq-refl}
use Rattle.obo_tags.specs.declared.kind.FrameKind.TheVariants.{Term}
use Rattle.obo_clause.specs.declared.clause.Clause.{Clause}
use Rattle.obo_clause.specs.declared.clause.Value.{Value}
use Rattle.owl_axioms.specs.Proper.{are_proper_sides, is_class_iri, is_proper, is_proper_body, is_proper_expr, proper_step}
use Rattle.owl_axioms.specs.declared.body.Axiom.{Axiom}
use Rattle.owl_axioms.specs.declared.body.Body.TheVariants as body
use Rattle.owl_axioms.specs.declared.expr.ClassExpr.{ClassExpr}
use Rattle.owl_axioms.specs.declared.expr.ClassExpr.TheFolds.{para-roll-ClassExpr}
use Rattle.owl_axioms.specs.declared.expr.ClassExpr.TheOpen.{ClassExpr-F}
use Rattle.owl_axioms.specs.declared.expr.ClassExpr.TheVariants as expr
use Rattle.owl_axioms.specs.declared.expr.ClassExpr.TheViews.{roll-ClassExpr}
use Rattle.owl_axioms.specs.declared.name.Name.{Name}
use Rattle.text_sets.specs.Sets.{In}
use Rattle.text_sets.proofs.PartLemmas.{first_some-some}
use Rattle.text_sets.proofs.SetLemmas.{In-from_filter_map}
use Rattle.obo_notes.specs.Context.{Writing, where_true}
use Rattle.obo_statements.specs.Anchors.{anchors, class_entity}
use Rattle.obo_statements.specs.Classes.{as_id, class_id, class_iri, is_class}
use Rattle.obo_statements.specs.Extras.{Worded, qualifiers_with, worded_plainly}
use Rattle.obo_statements.specs.Groups.{intersection, operand_value}
use Rattle.obo_statements.proofs.PlainGroups.{value_from_worded}
use Rattle.obo_statements.specs.Restrictions.{restriction_words}
use Rattle.obo_statements.specs.Statements.{StatementRow, says, statement_by, statement_spelling, statements_of}
use Rattle.obo_statements.specs.Values.{below_class, restricted, value_plainly, value_stating}
use Rattle.obo_mapping.specs.Axioms.{body_spelled, declaring, frame_id}
use Rattle.obo_mapping.specs.Back.{IsSpellable, writing_of}
use Rattle.obo_mapping.specs.Documents.{clauses_for, declared_in}
use Rattle.obo_mapping.proofs.SinglesLaw.{IsStatement}
use Rattle.obo_mapping.proofs.SpelledLaw.{declared_name, is_declared_from}
use Rattle.spelling_laws.specs.Laws.{InclusionsKeepSpelling, IsInclusion}
use Rattle.spelling_laws.proofs.Forms.{formed_clauses, formed_ways}
use Rattle.spelling_laws.proofs.Gathering.{declared_grows, form_moves}
use Rattle.spelling_laws.proofs.Matching.{map_back, or_one, where_from, where_some}

-- ---- classes

proper_class : (iri : List ℕ) → is_proper_expr (expr.Class iri) ≡ is_class_iri iri
unfolding is_proper_expr proper_step roll-ClassExpr denote.Hole.Carrier.roll
proper_class iri = para-roll-ClassExpr Bool proper_step (ClassExpr-F.Class iri)

is_itself : (iri : List ℕ) → is_class_iri iri ≡ true → is_class iri (expr.Class iri) ≡ true
unfolding class_iri
is_itself iri is = ap (λ test. option_map_or (bytes_eq iri) (where_true test (Some iri)) false) is ∙ bytes_eq-refl iri

sub_class : (class : List ℕ) (super : ClassExpr) (one : Axiom) → one.body ≡ body.Sub (expr.Class class) super → is_proper one ≡ true → is_class_iri class ≡ true
unfolding is_proper is_proper_body
sub_class class super one is proper =
    let said = subst (λ b. is_proper_body b ≡ true) is (and_parts (is_proper_body one.body) (are_proper_sides one.sides) proper).0 in
    sym (proper_class class) ∙ (and_parts (is_proper_expr (expr.Class class)) (is_proper_expr super) said).0

-- ---- the clause of an inclusion

module _ (w : Writing) (class : List ℕ) (super : ClassExpr) (itself : is_class class (expr.Class class) ≡ true) where
  abbrev inclusion : Axiom
  inclusion = record { body = body.Sub (expr.Class class) super; sides = [] }

  row_states : (row : StatementRow) → IsSome (value_plainly w class row.statement (body.Sub (expr.Class class) super)) → IsSome (statement_by w class inclusion row)
  unfolding value_stating
  row_states row some = with_value (value_plainly w class row.statement (body.Sub (expr.Class class) super)) some
    where
      with_value : (o : Option Value) → IsSome o
          → IsSome (option_and_then (λ (worded : Worded). option_map (λ qualifiers. let c : Clause = record { tag = row.tag; value = worded.value; qualifiers = qualifiers } in c) (qualifiers_with worded.extras [])) (option_map worded_plainly o))
      with_value None some = some
      with_value (Some v) some = refl

  states_by_id : IsSome (as_id (class_id w super)) → IsSome (statement_spelling w Term class inclusion)
  unfolding statement_spelling statements_of value_plainly
  states_by_id some =
      let row = says _ below_class in
      first_some-some (statement_by w class inclusion) (statements_of Term) row (inl refl) (row_states row (where_from (is_class class (expr.Class class)) (as_id (class_id w super)) itself some))

  states_by_words : IsSome (restriction_words w super) → IsSome (statement_spelling w Term class inclusion)
  unfolding statement_spelling statements_of value_plainly
  states_by_words some =
      let row = says _ restricted in
      first_some-some (statement_by w class inclusion) (statements_of Term) row (inr (inl refl)) (row_states row (where_from (is_class class (expr.Class class)) (restriction_words w super) itself some))

  pub states_inclusion : IsSome (operand_value w intersection super) → IsSome (statement_spelling w Term class inclusion)
  states_inclusion some = ⊎_elim states_by_id states_by_words (or_one (as_id (class_id w super)) (restriction_words w super) some)

-- ---- what is declared has an id

pub declared_has_id : (name : Option (List ℕ)) (axioms : List Axiom) → IsSpellable name axioms → (entity : Name) → In entity (filter_map declared_in axioms) → IsSome (frame_id (writing_of name) entity)
declared_has_id name axioms spellable entity here =
    let a = In-from_filter_map declared_in entity axioms here in
    let w = writing_of name in
    let declared = filter_map declared_in axioms in
    let said = declared_name a.0 entity a.2 in
    ⊎_elim
    (λ stated. absurd (subst IsStatement said stated.0))
    (λ alone. id_of_alone w declared a.0 (subst (λ b. IsSome (body_spelled w declared a.0 b)) said alone))
    (formed_ways w declared a.0 (spellable.formed a.0 a.1))
  where
    id_of_alone : (w : Writing) (declared : List Name) (one : Axiom) → IsSome (body_spelled w declared one (body.Declaration entity)) → IsSome (frame_id w entity)
    id_of_alone w declared one some = map_back (declaring entity) (frame_id w entity) (where_some _ (option_map (declaring entity) (frame_id w entity)) some).1

-- ---- the law

inclusion_formed : (name : Option (List ℕ)) (axioms more : List Axiom) → IsSpellable name axioms → ((one : Axiom) → In one axioms → In one more) → (one : Axiom) (is : IsInclusion name axioms one)
    → IsSome (clauses_for (writing_of name) (filter_map declared_in more) (record { body = body.Sub (expr.Class is.class) is.super; sides = [] }))
unfolding anchors
inclusion_formed name axioms more spellable each one is =
    let w = writing_of name in
    let itself = is_itself is.class (sub_class is.class is.super one (ap (λ (a : Axiom). a.body) is.is) is.proper) in
    formed_clauses w (filter_map declared_in more) (record { body = body.Sub (expr.Class is.class) is.super; sides = [] }) tt (record {
      entity = class_entity is.class;
      among = inl refl;
      known = is_declared_from (filter_map declared_in more) (class_entity is.class) (declared_grows axioms more each (class_entity is.class) is.declared);
      has = declared_has_id name axioms spellable (class_entity is.class) is.declared;
      states = inl (states_inclusion w is.class is.super itself (value_from_worded w intersection is.super is.has));
    })

pub inclusions_keep_spelling : InclusionsKeepSpelling
inclusions_keep_spelling name axioms more spellable each from = record {
  normal = spellable.normal;
  proper = λ one here. ⊎_elim (spellable.proper one) (λ (is : IsInclusion name axioms one). is.proper) (from one here);
  formed = λ one here. ⊎_elim
      (λ of. form_moves name name axioms more one (λ entity among known. declared_grows axioms more each entity known) (spellable.formed one of))
      (λ (is : IsInclusion name axioms one). subst (λ a. IsSome (clauses_for (writing_of name) (filter_map declared_in more) a)) (sym is.is) (inclusion_formed name axioms more spellable each one is))
      (from one here);
}
