-- A class that an axiom names has an id, where the axiom is proper and has clauses, and is neither owl:Thing nor owl:Nothing:
-- what states the axiom spells each class in it.
use Rattle.std.proofs.Common.{◌≡◌, ℕ, Bool, true, false, ◌&&◌, List, [], ◌∷◌, ◌++◌, map, Option, None, Some, ⊎_elim, refl, sym, ap, subst, ◌∙◌}
use Rattle.std.specs.List.{filter_map, flat_map}
use Rattle.std.specs.Option.{IsSome, option_and_then, option_map, option_map_or}
use Rattle.std.specs.Str.{bytes_eq}
use Rattle.std.proofs.lemmas.Bool.{and_parts, cases_Bool, cond-false, cond-true}
use Rattle.std.proofs.lemmas.Option.{none-some, same_Some}
use Rattle.obo_clause.specs.declared.clause.Clause.{Clause}
use Rattle.obo_clause.specs.declared.clause.Qualifier.{Qualifier}
use Rattle.obo_clause.specs.declared.clause.Value.{Value}
use Rattle.obo_clause.specs.declared.clause.Value.TheVariants as value
use Rattle.clause_printer.specs.Printing.{value_text}
use Rattle.rel_io.specs.Texts.{is_clean_iri}
use Rattle.owl_axioms.specs.Names.{body_names, is_signed, names_in, names_of, names_step, subject_names}
use Rattle.owl_axioms.specs.Proper.{are_proper_sides, is_class_iri, is_proper, is_proper_body, is_proper_name, is_proper_value}
use Rattle.owl_axioms.specs.Vocabulary.{owl_nothing, owl_thing}
use Rattle.owl_axioms.specs.declared.body.Axiom.{Axiom}
use Rattle.owl_axioms.specs.declared.body.Body.{Body}
use Rattle.owl_axioms.specs.declared.body.Body.TheVariants as body
use Rattle.owl_axioms.specs.declared.expr.ClassExpr.{ClassExpr}
use Rattle.owl_axioms.specs.declared.expr.ClassExpr.TheFolds.{map-ClassExpr}
use Rattle.owl_axioms.specs.declared.expr.ClassExpr.TheOpen.{ClassExpr-F}
use Rattle.owl_axioms.specs.declared.expr.ClassExpr.TheVariants as expr
use Rattle.owl_axioms.specs.declared.expr.ClassExpr.TheViews.{out-ClassExpr, roll-ClassExpr, roll-out-ClassExpr}
use Rattle.owl_axioms.specs.declared.name.Kind.TheVariants as kinds
use Rattle.owl_axioms.specs.declared.name.Name.{Name}
use Rattle.owl_axioms.proofs.Listed.{axiom_of_name, in_listed, names_layer}
use Rattle.text_sets.specs.Parts.{each_some}
use Rattle.text_sets.specs.Sets.{In}
use Rattle.text_sets.specs.Sorted.{sorted_by}
use Rattle.text_sets.proofs.PartLemmas.{each_some-items, first_some-found, option_and_then_some, option_map_some, some_value}
use Rattle.text_sets.proofs.SetLemmas.{In-append, In-from_contains, In-from_flat_map, In-from_map}
use Rattle.obo_notes.specs.Context.{Writing}
use Rattle.obo_notes.specs.Forms.{note_of}
use Rattle.obo_notes.specs.Notes.{qualifiers_of, spelling}
use Rattle.obo_notes.proofs.Guards.{same_bytes, where_true_some}
use Rattle.obo_statements.specs.Anchors.{anchors, class_anchor, class_entity, individual_entity, role_entity}
use Rattle.obo_statements.specs.Classes.{as_id, class_id, class_iri, is_class}
use Rattle.obo_statements.specs.Extras.{Worded, qualifiers_with, worded_plainly}
use Rattle.obo_statements.specs.Groups.{Group, group_operands, group_spelling, intersection, operand_value, operands_in, other_expr, union}
use Rattle.obo_statements.specs.inner.PlainGroups.{plain_clauses_with, plain_group_clauses, plain_group_in_body}
use Rattle.obo_statements.proofs.PlainGroups.{group_is_spelled_plainly}
use Rattle.obo_statements.specs.Restrictions.{restriction_words, words_of}
use Rattle.obo_statements.specs.Statements.{statement_by, statement_spelling, statements_of}
use Rattle.obo_statements.specs.Values.{Statement, below_class, disjoint_class, has_character, has_domain, has_range, member, other_class, other_of, restricted, same_class, value_plainly, value_stating}
use Rattle.obo_mapping.specs.Axioms.{Home, at_home, body_spelled, declaring, frame_id, frame_kind, home_at, is_declared, same_kind}
use Rattle.obo_mapping.specs.Back.{writing_of}
use Rattle.obo_mapping.specs.Documents.{clauses_for, declared_in}
use Rattle.obo_mapping.proofs.SinglesLaw.{IsStatement}
use Rattle.spelling_laws.specs.Laws.{NamedClassesHaveIds}
use Rattle.spelling_laws.proofs.Forms.{IsFormedAt, formed_ways, statement_home}
use Rattle.spelling_laws.proofs.Homes.{GroupedAt, StatedAt, as_id_some, character_never, ids_of_both}
use Rattle.spelling_laws.proofs.Matching.{map_back, or_one, some_from, then_some, where_some}

-- ---- names

no_role : {P : Type 0} (r iri : List ℕ) → role_entity r ≡ class_entity iri → P
no_role r iri same = let h : false ≡ true = ap (λ (n : Name). same_kind n.kind kinds.Class) same in absurd (cc)

no_individual : {P : Type 0} (i iri : List ℕ) → individual_entity i ≡ class_entity iri → P
no_individual i iri same = let h : false ≡ true = ap (λ (n : Name). same_kind n.kind kinds.Class) same in absurd (cc)

-- a subject that is named is what is named, and may be in a signature
subject_named : (subject one : Name) → In one (subject_names subject) → (subject ≡ one) × (is_signed subject.kind subject.iri ≡ true)
subject_named subject one = by (is_signed subject.kind subject.iri) refl
  where
    by : (b : Bool) → is_signed subject.kind subject.iri ≡ b → In one (subject_names subject) → (subject ≡ one) × (is_signed subject.kind subject.iri ≡ true)
    by true h = rw h (λ here. ⊎_elim (λ same. (same, refl)) (λ none. absurd none) here)
    by false h = rw h (λ here. absurd here)

class_signed : (iri : List ℕ) → is_clean_iri iri ≡ true → is_signed kinds.Class iri ≡ true → is_class_iri iri ≡ true
unfolding is_signed is_class_iri
class_signed iri clean is = λ i. clean i && is i

-- ---- classes with ids

module _ (w : Writing) where
  -- each class of the names has an id, and is neither owl:Thing nor owl:Nothing
  abbrev pub HaveIds : List Name → Type 0
  HaveIds names = (iri : List ℕ) → In (class_entity iri) names → IsSome (w.id iri) × (is_class_iri iri ≡ true)

  none_ids : HaveIds []
  none_ids iri here = absurd here

  role_ids : (r : List ℕ) (names : List Name) → HaveIds names → HaveIds (role_entity r ∷ names)
  role_ids r names have iri here = ⊎_elim (λ same. no_role r iri same) (have iri) here

  individual_ids : (i : List ℕ) (names : List Name) → HaveIds names → HaveIds (individual_entity i ∷ names)
  individual_ids i names have iri here = ⊎_elim (λ same. no_individual i iri same) (have iri) here

  both_ids : (some others : List Name) → HaveIds some → HaveIds others → HaveIds (some ++ others)
  both_ids some others one two iri here = ⊎_elim (one iri) (two iri) (In-append (class_entity iri) some others here)

  layer_ids : (layer : ClassExpr-F ClassExpr) → HaveIds (names_step (map-ClassExpr _ _ names_in layer)) → HaveIds (names_in (roll-ClassExpr layer))
  layer_ids layer have = subst HaveIds (sym (names_layer layer)) have

  -- ---- expressions

  class_ids : (c : ClassExpr) (iri : List ℕ) → class_iri c ≡ Some iri → IsSome (w.id iri) → HaveIds (names_in c)
  unfolding class_iri names_step roll-ClassExpr denote.Hole.Carrier.roll
  class_ids expr.Thing iri is has = layer_ids ClassExpr-F.Thing none_ids
  class_ids expr.Nothing iri is has = layer_ids ClassExpr-F.Nothing none_ids
  class_ids (expr.Class one) iri is has =
      let found = where_true_some (is_class_iri one) (Some one) iri is in
      let own : IsSome (w.id one) = subst (λ i. IsSome (w.id i)) (sym (same_Some one iri found.1)) has in
      layer_ids (ClassExpr-F.Class one) (λ other here. ⊎_elim
      (λ same. subst (λ (n : Name). IsSome (w.id n.iri) × (is_class_iri n.iri ≡ true)) same (own, found.0))
      (λ none. absurd none) here)
  class_ids _ iri is has = absurd (none-some iri is)

  value_ids : (c : ClassExpr) → IsSome (as_id (class_id w c)) → HaveIds (names_in c)
  value_ids c some = let one = then_some w.id (class_iri c) (as_id_some (class_id w c) some) in class_ids c one.0 one.1 one.2

  own_ids : (c : ClassExpr) (x : List ℕ) → is_class x c ≡ true → IsSome (w.id x) → HaveIds (names_in c)
  own_ids c x is has = by (class_iri c) refl
    where
      by : (o : Option (List ℕ)) → class_iri c ≡ o → HaveIds (names_in c)
      by None none = let h : false ≡ true = sym (ap (λ o. option_map_or (bytes_eq x) o false) none) ∙ is in absurd (cc)
      by (Some iri) found =
          let same = same_bytes x iri (sym (ap (λ o. option_map_or (bytes_eq x) o false) found) ∙ is) in
          class_ids c iri found (subst (λ i. IsSome (w.id i)) same has)

  words_layer : (layer : ClassExpr-F ClassExpr) → IsSome (words_of w layer) → HaveIds (names_in (roll-ClassExpr layer))
  unfolding names_step
  words_layer (ClassExpr-F.Some role part) some =
      let r = then_some (λ r. option_map (λ c. value.Pair r c) (class_id w part)) (w.role_id role) some in
      let c = then_some w.id (class_iri part) (map_back (λ c. value.Pair r.0 c) (class_id w part) r.2) in
      layer_ids (ClassExpr-F.Some role part) (role_ids role (names_in part) (class_ids part c.0 c.1 c.2))
  words_layer _ some = let h : false ≡ true = some in absurd (cc)

  words_ids : (c : ClassExpr) → IsSome (restriction_words w c) → HaveIds (names_in c)
  unfolding restriction_words
  words_ids c some = subst (λ e. HaveIds (names_in e)) (roll-out-ClassExpr c) (words_layer (out-ClassExpr c) some)

  operand_ids : (g : Group) (c : ClassExpr) → IsSome (operand_value w g c) → HaveIds (names_in c)
  operand_ids union c some = value_ids c some
  operand_ids intersection c some = ⊎_elim (value_ids c) (words_ids c) (or_one (as_id (class_id w c)) (restriction_words w c) some)

  parts_ids : (ops : List ClassExpr) → ((c : ClassExpr) → In c ops → HaveIds (names_in c)) → HaveIds (flat_map (λ p. p) (map names_in ops))
  parts_ids ops each iri here =
      let names = In-from_flat_map (λ p. p) (class_entity iri) (map names_in ops) here in
      let c = In-from_map names_in names.0 ops names.1 in
      each c.0 c.1 iri (subst (In (class_entity iri)) (sym c.2) names.2)

  group_layer : (g : Group) (layer : ClassExpr-F ClassExpr) (ops : List ClassExpr) → operands_in g layer ≡ Some ops → ((c : ClassExpr) → In c ops → HaveIds (names_in c)) → HaveIds (names_in (roll-ClassExpr layer))
  unfolding names_step
  group_layer intersection (ClassExpr-F.And parts) ops is each = layer_ids (ClassExpr-F.And parts) (subst (λ os. HaveIds (flat_map (λ p. p) (map names_in os))) (sym (same_Some parts ops is)) (parts_ids ops each))
  group_layer union (ClassExpr-F.Or parts) ops is each = layer_ids (ClassExpr-F.Or parts) (subst (λ os. HaveIds (flat_map (λ p. p) (map names_in os))) (sym (same_Some parts ops is)) (parts_ids ops each))
  group_layer _ _ ops is each = absurd (none-some ops is)

  whole_ids : (g : Group) (qs : List Qualifier) (whole : ClassExpr) (cs : List Clause) → plain_clauses_with w g qs whole ≡ Some cs → HaveIds (names_in whole)
  whole_ids g qs whole cs is =
      let ops = option_and_then_some (λ operands. option_map (λ values. plain_group_clauses g qs (sorted_by value_text values)) (each_some (operand_value w g) operands)) (group_operands g whole) cs is in
      let values = option_map_some (λ values. plain_group_clauses g qs (sorted_by value_text values)) (each_some (operand_value w g) ops.0) cs ops.2 in
      subst (λ e. HaveIds (names_in e)) (roll-out-ClassExpr whole)
      (group_layer g (out-ClassExpr whole) ops.0 ops.1
      (λ c here. let v = each_some-items (operand_value w g) ops.0 values.0 values.1 c here in operand_ids g c (some_from (operand_value w g c) v.0 v.2)))

  -- ---- anchors that are classes

  one_has : (iri : List ℕ) (x : Name) → In x (class_entity iri ∷ []) → IsSome (frame_id w x) → IsSome (w.id x.iri)
  one_has iri x here has = ⊎_elim (λ same. subst (λ (n : Name). IsSome (frame_id w n) → IsSome (w.id n.iri)) same (λ h. h) has) (λ none. absurd none) here

  anchor_has : (c : ClassExpr) (x : Name) → In x (class_anchor c) → IsSome (frame_id w x) → IsSome (w.id x.iri)
  anchor_has expr.Thing x here has = one_has owl_thing x here has
  anchor_has expr.Nothing x here has = one_has owl_nothing x here has
  anchor_has (expr.Class iri) x here has = one_has iri x here has
  anchor_has _ x here has = absurd here

  pair_has : (c d : ClassExpr) (x : Name) → In x (class_anchor c ++ class_anchor d) → IsSome (frame_id w x) → IsSome (w.id x.iri)
  pair_has c d x here has = ⊎_elim (λ one. anchor_has c x one has) (λ two. anchor_has d x two has) (In-append x (class_anchor c) (class_anchor d) here)

  -- ---- statements

  pair_ids : (c d : ClassExpr) (x : Name) → In x (class_anchor c ++ class_anchor d) → IsSome (frame_id w x)
      → IsSome (option_and_then (λ one. as_id (w.id one)) (other_class x.iri c d)) → HaveIds (names_in c ++ names_in d)
  pair_ids c d x here has some =
      let o = then_some (λ one. as_id (w.id one)) (other_class x.iri c d) some in
      let p = option_and_then_some (λ one. option_and_then (λ two. other_of x.iri one two) (class_iri d)) (class_iri c) o.0 o.1 in
      let q = option_and_then_some (λ two. other_of x.iri p.0 two) (class_iri d) o.0 p.2 in
      let both = ids_of_both w.id p.0 q.0 x.iri (pair_has c d x here has) (subst (λ z. IsSome (option_and_then (λ one. as_id (w.id one)) z)) (sym q.2) o.2) in
      both_ids (names_in c) (names_in d) (class_ids c p.0 p.1 both.0) (class_ids d q.0 q.1 both.1)

  abbrev no_value : Option Value
  no_value = None

  never : {P : Type 0} → IsSome no_value → P
  never some = let h : false ≡ true = some in absurd (cc)

  stated_ids : (x : Name) (s : Statement) (said : Body) → IsStatement said → In x (anchors said) → IsSome (frame_id w x) → IsSome (value_plainly w x.iri s said) → HaveIds (body_names said)
  unfolding value_plainly anchors body_names
  stated_ids x below_class (body.Sub c d) is here has some =
      let both = where_some (is_class x.iri c) (as_id (class_id w d)) some in
      both_ids (names_in c) (names_in d) (own_ids c x.iri both.0 (anchor_has c x here has)) (value_ids d both.1)
  stated_ids x restricted (body.Sub c d) is here has some =
      let both = where_some (is_class x.iri c) (restriction_words w d) some in
      both_ids (names_in c) (names_in d) (own_ids c x.iri both.0 (anchor_has c x here has)) (words_ids d both.1)
  stated_ids x (has_character character) (body.Sub c d) is here has some = character_never w x character (body.Sub c d) tt some
  stated_ids x _ (body.Sub c d) is here has some = never some
  stated_ids x same_class (body.Equiv c d) is here has some = pair_ids c d x here has some
  stated_ids x (has_character character) (body.Equiv c d) is here has some = character_never w x character (body.Equiv c d) tt some
  stated_ids x _ (body.Equiv c d) is here has some = never some
  stated_ids x disjoint_class (body.Disjoint c d) is here has some = pair_ids c d x here has some
  stated_ids x (has_character character) (body.Disjoint c d) is here has some = character_never w x character (body.Disjoint c d) tt some
  stated_ids x _ (body.Disjoint c d) is here has some = never some
  stated_ids x has_domain (body.Domain r c) is here has some = role_ids r (names_in c) (value_ids c (where_some (bytes_eq x.iri r) (as_id (class_id w c)) some).1)
  stated_ids x (has_character character) (body.Domain r c) is here has some = character_never w x character (body.Domain r c) tt some
  stated_ids x _ (body.Domain r c) is here has some = never some
  stated_ids x has_range (body.Range r c) is here has some = role_ids r (names_in c) (value_ids c (where_some (bytes_eq x.iri r) (as_id (class_id w c)) some).1)
  stated_ids x (has_character character) (body.Range r c) is here has some = character_never w x character (body.Range r c) tt some
  stated_ids x _ (body.Range r c) is here has some = never some
  stated_ids x member (body.ClassAssertion c i) is here has some = individual_ids i (names_in c) (value_ids c (where_some (bytes_eq x.iri i) (as_id (class_id w c)) some).1)
  stated_ids x (has_character character) (body.ClassAssertion c i) is here has some = character_never w x character (body.ClassAssertion c i) tt some
  stated_ids x _ (body.ClassAssertion c i) is here has some = never some
  stated_ids x s (body.SubRole p q) is here has some = role_ids p (role_entity q ∷ []) (role_ids q [] none_ids)
  stated_ids x s (body.Chain p q r) is here has some = role_ids p (role_entity q ∷ role_entity r ∷ []) (role_ids q (role_entity r ∷ []) (role_ids r [] none_ids))
  stated_ids x s (body.EquivRoles p q) is here has some = role_ids p (role_entity q ∷ []) (role_ids q [] none_ids)
  stated_ids x s (body.DisjointRoles p q) is here has some = role_ids p (role_entity q ∷ []) (role_ids q [] none_ids)
  stated_ids x s (body.Inverse p q) is here has some = role_ids p (role_entity q ∷ []) (role_ids q [] none_ids)
  stated_ids x s (body.Transitive p) is here has some = role_ids p [] none_ids
  stated_ids x s (body.Reflexive p) is here has some = role_ids p [] none_ids
  stated_ids x s (body.Symmetric p) is here has some = role_ids p [] none_ids
  stated_ids x s (body.Asymmetric p) is here has some = role_ids p [] none_ids
  stated_ids x s (body.Functional p) is here has some = role_ids p [] none_ids
  stated_ids x s (body.InverseFunctional p) is here has some = role_ids p [] none_ids
  stated_ids x s (body.RoleAssertion p i j) is here has some = role_ids p (individual_entity i ∷ individual_entity j ∷ []) (individual_ids i (individual_entity j ∷ []) (individual_ids j [] none_ids))
  stated_ids x s (body.Declaration name) is here has some = absurd is
  stated_ids x s (body.Note subject property noted) is here has some = absurd is
  stated_ids x s (body.OntologyNote property noted) is here has some = absurd is

  at_statement : (x : Name) (a : Axiom) → IsStatement a.body → In x (anchors a.body) → IsSome (frame_id w x) → StatedAt w a x → HaveIds (body_names a.body)
  unfolding statement_spelling value_stating
  at_statement x a is here has some =
      let c = some_value (statement_spelling w (frame_kind x.kind) x.iri a) some in
      let row = first_some-found (statement_by w x.iri a) (statements_of (frame_kind x.kind)) c.0 c.1 in
      let make = λ (v : Worded). option_map (λ qualifiers. let d : Clause = record { tag = row.0.tag; value = v.value; qualifiers = qualifiers } in d) (qualifiers_with v.extras a.sides) in
      let worded = option_and_then_some make (value_stating w x.iri row.0.statement a.body) c.0 row.2 in
      let value = option_map_some worded_plainly (value_plainly w x.iri row.0.statement a.body) worded.0 worded.1 in
      stated_ids x row.0.statement a.body is here has (some_from (value_plainly w x.iri row.0.statement a.body) value.0 value.1)

  at_group : (x : Name) (g : Group) (a : Axiom) → In x (anchors a.body) → IsSome (frame_id w x) → IsSome (group_spelling w x.iri g a) → HaveIds (body_names a.body)
  unfolding anchors body_names
  at_group x g a here has some = by_body a.body here (subst (λ o. IsSome o) (group_is_spelled_plainly w x.iri g a) some)
    where
      by_body : (said : Body) → In x (anchors said) → IsSome (plain_group_in_body w x.iri g a.sides said) → HaveIds (body_names said)
      by_body (body.Equiv c d) here some =
          let own = pair_has c d x here has in
          let cs = some_value (plain_group_in_body w x.iri g a.sides (body.Equiv c d)) some in
          let qs = option_and_then_some (λ qualifiers. option_and_then (plain_clauses_with w g qualifiers) (other_expr x.iri c d)) (qualifiers_of a.sides) cs.0 cs.1 in
          let whole = option_and_then_some (plain_clauses_with w g qs.0) (other_expr x.iri c d) cs.0 qs.2 in
          let other = whole_ids g qs.0 whole.0 cs.0 whole.2 in
          ⊎_elim
          (λ yes.
          let same = same_Some d whole.0 (sym (cond-true _ (Some d) _ yes) ∙ whole.1) in
          both_ids (names_in c) (names_in d) (own_ids c x.iri yes own) (subst (λ e. HaveIds (names_in e)) (sym same) other))
          (λ isnt.
          let found = where_true_some (is_class x.iri d) (Some c) whole.0 (sym (cond-false _ (Some d) _ isnt) ∙ whole.1) in
          let same = same_Some c whole.0 found.1 in
          both_ids (names_in c) (names_in d) (subst (λ e. HaveIds (names_in e)) (sym same) other) (own_ids d x.iri found.0 own))
          (cases_Bool (is_class x.iri c))
      by_body _ here some = let h : false ≡ true = some in absurd (cc)

  formed_ids : (declared : List Name) (a : Axiom) → IsStatement a.body → IsFormedAt w declared a → HaveIds (body_names a.body)
  formed_ids declared a statement is =
      ⊎_elim
      (λ stated. at_statement is.entity a statement is.among is.has stated)
      (λ (grouped : GroupedAt w a is.entity). at_group is.entity grouped.0 a is.among is.has grouped.1)
      is.states

  -- ---- declarations and notes

  subject_ids : (subject : Name) → is_proper_name subject ≡ true → IsSome (frame_id w subject) → HaveIds (subject_names subject)
  unfolding is_proper_name
  subject_ids subject clean has iri here =
      let is = subject_named subject (class_entity iri) here in
      let moved = subst (λ (n : Name). (is_clean_iri n.iri ≡ true) × IsSome (frame_id w n) × (is_signed n.kind n.iri ≡ true)) is.0 (clean, has, is.1) in
      (moved.1, class_signed iri moved.0 moved.2)

  alone_ids : (declared : List Name) (a : Axiom) (said : Body) → a.body ≡ said → is_proper_body said ≡ true → IsSome (body_spelled w declared a said) → HaveIds (body_names said)
  unfolding body_names is_proper_body
  alone_ids declared a (body.Declaration name) is proper some =
      subject_ids name proper (map_back (declaring name) (frame_id w name) (where_some _ (option_map (declaring name) (frame_id w name)) some).1)
  alone_ids declared a (body.Note subject property noted) is proper some =
      let home = then_some (λ (home : Home). option_map (at_home home) (spelling w (frame_kind subject.kind) (note_of property noted a.sides))) (home_at w declared subject) some in
      let there = where_some (is_declared declared subject) (option_map (λ (id : List ℕ). let h : Home = record { entity = subject; id = id } in h) (frame_id w subject)) (some_from (home_at w declared subject) home.0 home.1) in
      let has = map_back (λ (id : List ℕ). let h : Home = record { entity = subject; id = id } in h) (frame_id w subject) there.1 in
      let clean = (and_parts (is_proper_name subject) (is_clean_iri property) (and_parts (is_proper_name subject && is_clean_iri property) (is_proper_value noted) proper).0).0 in
      subject_ids subject clean has
  alone_ids declared a (body.OntologyNote property noted) is proper some = none_ids
  alone_ids declared a said is proper some = subst (λ b. HaveIds (body_names b)) is (formed_ids declared a (subst IsStatement (sym is) tt) (statement_home w declared a some))

  axiom_ids : (declared : List Name) (a : Axiom) → is_proper a ≡ true → IsSome (clauses_for w declared a) → HaveIds (body_names a.body)
  unfolding is_proper
  axiom_ids declared a proper some =
      ⊎_elim
      (λ (stated : IsStatement a.body × IsFormedAt w declared a). formed_ids declared a stated.0 stated.1)
      (λ alone. alone_ids declared a a.body refl (and_parts (is_proper_body a.body) (are_proper_sides a.sides) proper).0 alone)
      (formed_ways w declared a some)

-- ---- the law

pub named_classes_have_ids : NamedClassesHaveIds
named_classes_have_ids name axioms spellable iri is =
    in_listed (names_of axioms) kinds.Class iri is
    (λ n here kind same. axiom_of_name axioms n here
    (λ a stands among.
    let there = In-from_contains a axioms stands in
    let named : n ≡ class_entity iri = λ i. record { kind = kind i; iri = same i } in
    axiom_ids (writing_of name) (filter_map declared_in axioms) a (spellable.proper a there) (spellable.formed a there) iri
    (subst (λ m. In m (body_names a.body)) named (In-from_contains n (body_names a.body) among))))
