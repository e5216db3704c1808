-- The clauses of statements and groups are such that lines spell them.
use Rattle.std.proofs.Common.{◌≡◌, ◌<◌, ℕ, Bool, true, false, ◌&&◌, List, [], ◌∷◌, codes, length, All, Option, Some, inl, inr, ⊎_elim, refl, sym, subst, arith, ◌∙◌}
use Rattle.std.specs.List.{AllPass, list_all}
use Rattle.std.specs.Option.{option_and_then, option_map}
use Rattle.std.specs.Prelude.{nat_lt}
use Rattle.std.specs.Str.{bytes_eq}
use Rattle.std.proofs.lemmas.Bool.{and_parts, cases_Bool, cond-false, cond-true, not-true}
use Rattle.std.proofs.lemmas.List.Elements.{All-nil}
use Rattle.std.proofs.lemmas.List.Sums.{AllPass-from_list_all}
use Rattle.std.proofs.lemmas.Option.{none-some, same_Some}
use Rattle.rel_io.proofs.Texts.{word_from_readable}
use Rattle.text_sets.proofs.SetLemmas.{In-from_map}
use Rattle.text_sets.specs.Sets.{In}
use Rattle.rel_io.specs.Texts.{is_readable}
use Rattle.obo_tags.specs.Table.{shape_of, tags_of}
use Rattle.obo_tags.specs.declared.kind.FrameKind.{FrameKind}
use Rattle.obo_tags.specs.declared.kind.FrameKind.TheVariants.{Header, Instance, Term, Typedef}
use Rattle.obo_tags.specs.declared.kind.ValueShape.{ValueShape}
use Rattle.obo_tags.specs.declared.kind.ValueShape.TheVariants as shapes
use Rattle.obo_clause.specs.Spelling.{shape_at}
use Rattle.obo_clause.specs.Vocabulary.{is_tag_byte}
use Rattle.obo_clause.specs.declared.clause.Clause.{Clause}
use Rattle.obo_clause.specs.declared.clause.Qualifier.{Qualifier}
use Rattle.obo_clause.specs.declared.clause.Value.{Value}
use Rattle.obo_clause.specs.declared.clause.Value.TheVariants as value
use Rattle.obo_clause.specs.Fits.{FitBehind, Fits, FitsQualifier, FitsShape}
use Rattle.clause_printer.specs.Printing.{qualifier_text, value_text}
use Rattle.owl_axioms.specs.declared.annotation.Side.{Side}
use Rattle.owl_axioms.specs.declared.body.Axiom.{Axiom}
use Rattle.owl_axioms.specs.declared.body.Body.{Body}
use Rattle.owl_axioms.specs.declared.body.Body.TheVariants as body
use Rattle.owl_axioms.specs.declared.expr.ClassExpr.{ClassExpr}
use Rattle.text_sets.specs.Parts.{each_some}
use Rattle.text_sets.specs.Sorted.{sorted_by}
use Rattle.text_sets.proofs.PartLemmas.{each_some-parts, first_some-found, option_and_then_some, option_map_some, option_or_some}
use Rattle.text_sets.proofs.SortedLemmas.{sorted_by-only}
use Rattle.obo_notes.specs.Context.{Agree, Reading, Writing, where_true}
use Rattle.obo_notes.specs.Keys.{qualifier_of}
use Rattle.obo_notes.specs.Notes.{qualifiers_of}
use Rattle.obo_statements.specs.Classes.{class_id}
use Rattle.obo_statements.specs.Restrictions.{restriction_words}
use Rattle.obo_statements.specs.Values.{Statement, asymmetric, functional, inverse_functional, other_class, other_of, reflexive, symmetric, transitive, value_plainly}
use Rattle.obo_statements.specs.Statements.{StatementRow, statement_spelling, statements_of}
use Rattle.obo_statements.specs.Groups.{Group, group_operands, group_spelling, group_tag, intersection, operand_value, other_expr, union}
use Rattle.obo_statements.specs.inner.PlainGroups.{plain_clauses_with, plain_group_clauses, plain_group_in_body}
use Rattle.obo_notes.proofs.Guards.{where_true_some}
use Rattle.obo_notes.proofs.NoteLaws.{each_fits}
use Rattle.obo_statements.proofs.PlainGroups.{group_is_spelled_plainly}
use Rattle.obo_statements.proofs.PlainMeaning.{plain_by, spelling_is_plain}
use Rattle.obo_statements.proofs.StatementLaws.{class_id-readable, words_back}
use Rattle.obo_notes.proofs.XrefLists.{all_from_in}

-- ---- the shape of each statement

abbrev pub statement_shape : Statement → ValueShape
statement_shape Statement.restricted = shapes.Pair
statement_shape Statement.chain = shapes.Pair
statement_shape Statement.related = shapes.Pair
statement_shape (Statement.has_character c) = shapes.Bool
statement_shape _ = shapes.Id

abbrev EachRow : (StatementRow → Type 0) → List StatementRow → Type 0
EachRow P [] = Unit {0}
EachRow P (row ∷ rows) = P row × EachRow P rows

each_row : (P : StatementRow → Type 0) (rows : List StatementRow) (row : StatementRow) → EachRow P rows → In row rows → P row
each_row P [] row all here = absurd here
each_row P (z ∷ rows) row all (inl same) = subst P same all.0
each_row P (z ∷ rows) row all (inr later) = each_row P rows row all.1 later

abbrev HasShape : FrameKind → StatementRow → Type 0
HasShape kind row = shape_at kind false row.tag ≡ statement_shape row.statement

shapes_are : (kind : FrameKind) → EachRow (HasShape kind) (statements_of kind)
unfolding statements_of tags_of shape_of
shapes_are Header = tt
shapes_are Term = (refl, (refl, (refl, (refl, tt))))
shapes_are Typedef = (refl, (refl, (refl, (refl, (refl, (refl, (refl, (refl, (refl, (refl, (refl, (refl, (refl, (refl, tt))))))))))))))
shapes_are Instance = (refl, (refl, tt))

abbrev is_good_tag : StatementRow → Bool
is_good_tag row = nat_lt 0 (length row.tag) && list_all is_tag_byte row.tag

tags_good : (kind : FrameKind) → list_all is_good_tag (statements_of kind) ≡ true
unfolding statements_of
tags_good Header = refl
tags_good Term = refl
tags_good Typedef = refl
tags_good Instance = refl

behind : (s : Statement) (qs : List Qualifier) → All FitsQualifier qs → FitBehind (statement_shape s) qs
behind Statement.restricted qs all = all
behind Statement.chain qs all = all
behind Statement.related qs all = all
behind (Statement.has_character c) qs all = all
behind Statement.below_class qs all = all
behind Statement.same_class qs all = all
behind Statement.disjoint_class qs all = all
behind Statement.below_role qs all = all
behind Statement.same_role qs all = all
behind Statement.disjoint_role qs all = all
behind Statement.inverse_role qs all = all
behind Statement.has_domain qs all = all
behind Statement.has_range qs all = all
behind Statement.over qs all = all
behind Statement.member qs all = all

pub qualifiers_fit : (sides : List Side) (qs : List Qualifier) → qualifiers_of sides ≡ Some qs → All FitsQualifier qs
qualifiers_fit sides qs is =
    let found = option_map_some (sorted_by qualifier_text) (each_some qualifier_of sides) qs is in
    all_from_in FitsQualifier qs (λ q here. each_fits sides found.0 found.1 q (sorted_by-only qualifier_text found.0 q (subst (In q) (sym found.2) here)))

module _ (reading : Reading) (writing : Writing) (agree : Agree reading writing) (x : List ℕ) where
  id_value : (o : Option (List ℕ)) (v : Value) → ((id : List ℕ) → o ≡ Some id → is_readable id ≡ true) → option_map value.Id o ≡ Some v → FitsShape shapes.Id v
  id_value o v each is = let id = option_map_some value.Id o v is in subst (FitsShape shapes.Id) id.2 (word_from_readable id.0 (each id.0 id.1))

  class_value : (c : ClassExpr) (v : Value) → option_map value.Id (class_id writing c) ≡ Some v → FitsShape shapes.Id v
  class_value c v is = id_value (class_id writing c) v (λ id has. class_id-readable reading writing agree x c id has) is

  iri_value : (iri : List ℕ) (v : Value) → option_map value.Id (writing.id iri) ≡ Some v → FitsShape shapes.Id v
  iri_value iri v is = id_value (writing.id iri) v (λ id has. (agree.ids iri id has).0) is

  role_value : (iri : List ℕ) (v : Value) → option_map value.Id (writing.role_id iri) ≡ Some v → FitsShape shapes.Id v
  role_value iri v is = id_value (writing.role_id iri) v (λ id has. (agree.role_ids iri id has).0) is

  other_class_value : (c d : ClassExpr) (v : Value) → option_and_then (λ one. option_map value.Id (writing.id one)) (other_class x c d) ≡ Some v → FitsShape shapes.Id v
  other_class_value c d v is = let one = option_and_then_some (λ one. option_map value.Id (writing.id one)) (other_class x c d) v is in iri_value one.0 v one.2

  other_role_value : (r s : List ℕ) (v : Value) → option_and_then (λ one. option_map value.Id (writing.role_id one)) (other_of x r s) ≡ Some v → FitsShape shapes.Id v
  other_role_value r s v is = let one = option_and_then_some (λ one. option_map value.Id (writing.role_id one)) (other_of x r s) v is in role_value one.0 v one.2

  truth_value : (t : Bool) (v : Value) → where_true t (Some (value.Bool true)) ≡ Some v → FitsShape shapes.Bool v
  truth_value t v is = subst (FitsShape shapes.Bool) (same_Some (value.Bool true) v (where_true_some t (Some (value.Bool true)) v is).1) tt

  words_value : (d : ClassExpr) (v : Value) → restriction_words writing d ≡ Some v → FitsShape shapes.Pair v
  words_value d v is =
      let words = words_back reading writing agree x d v is in
      subst (FitsShape shapes.Pair) words.value_is (word_from_readable words.role words.role_fits, word_from_readable words.filler words.filler_fits)

  statement_value : (s : Statement) (b : Body) (v : Value) → value_plainly writing x s b ≡ Some v → FitsShape (statement_shape s) v
  unfolding value_plainly
  statement_value Statement.below_class (body.Sub c d) v is = class_value d v (where_true_some _ _ v is).1
  statement_value Statement.restricted (body.Sub c d) v is = words_value d v (where_true_some _ _ v is).1
  statement_value Statement.same_class (body.Equiv c d) v is = other_class_value c d v is
  statement_value Statement.disjoint_class (body.Disjoint c d) v is = other_class_value c d v is
  statement_value Statement.below_role (body.SubRole r s) v is = role_value s v (where_true_some _ _ v is).1
  statement_value Statement.same_role (body.EquivRoles r s) v is = other_role_value r s v is
  statement_value Statement.disjoint_role (body.DisjointRoles r s) v is = other_role_value r s v is
  statement_value Statement.inverse_role (body.Inverse r s) v is = other_role_value r s v is
  statement_value (Statement.has_character transitive) (body.Transitive r) v is = truth_value (bytes_eq x r) v is
  statement_value (Statement.has_character reflexive) (body.Reflexive r) v is = truth_value (bytes_eq x r) v is
  statement_value (Statement.has_character symmetric) (body.Symmetric r) v is = truth_value (bytes_eq x r) v is
  statement_value (Statement.has_character asymmetric) (body.Asymmetric r) v is = truth_value (bytes_eq x r) v is
  statement_value (Statement.has_character functional) (body.Functional r) v is = truth_value (bytes_eq x r) v is
  statement_value (Statement.has_character inverse_functional) (body.InverseFunctional r) v is = truth_value (bytes_eq x r) v is
  statement_value Statement.has_domain (body.Domain r c) v is = class_value c v (where_true_some _ _ v is).1
  statement_value Statement.has_range (body.Range r c) v is = class_value c v (where_true_some _ _ v is).1
  statement_value Statement.over (body.Chain r s t) v is = role_value s v (where_true_some _ _ v is).1
  statement_value Statement.chain (body.Chain r s t) v is =
      let pair = option_and_then_some (λ one. option_map (λ two. value.Pair one two) (writing.role_id s)) (writing.role_id r) v (where_true_some _ _ v is).1 in
      let two = option_map_some (λ two. value.Pair pair.0 two) (writing.role_id s) v pair.2 in
      subst (FitsShape shapes.Pair) two.2 (word_from_readable pair.0 (agree.role_ids r pair.0 pair.1).0, word_from_readable two.0 (agree.role_ids s two.0 two.1).0)
  statement_value Statement.member (body.ClassAssertion c j) v is = class_value c v (where_true_some _ _ v is).1
  statement_value Statement.related (body.RoleAssertion r a b) v is =
      let pair = option_and_then_some (λ role. option_map (λ id. value.Pair role id) (writing.id b)) (writing.role_id r) v (where_true_some _ _ v is).1 in
      let two = option_map_some (λ id. value.Pair pair.0 id) (writing.id b) v pair.2 in
      subst (FitsShape shapes.Pair) two.2 (word_from_readable pair.0 (agree.role_ids r pair.0 pair.1).0, word_from_readable two.0 (agree.ids b two.0 two.1).0)
  statement_value _ _ v is = absurd (none-some v is)

  -- the clause of a statement is one that some line spells
  pub spelled_statement_fits : (kind : FrameKind) (a : Axiom) (c : Clause) → statement_spelling writing kind x a ≡ Some c → Fits kind false c
  spelled_statement_fits kind a c is =
      let row = first_some-found (plain_by writing x a) (statements_of kind) c (sym (spelling_is_plain writing kind x a) ∙ is) in
      let v = option_and_then_some (λ v. option_map (λ qualifiers. let d : Clause = record { tag = row.0.tag; value = v; qualifiers = qualifiers } in d) (qualifiers_of a.sides)) (value_plainly writing x row.0.statement a.body) c row.2 in
      let made = option_map_some (λ (qs : List Qualifier). let d : Clause = record { tag = row.0.tag; value = v.0; qualifiers = qs } in d) (qualifiers_of a.sides) c v.2 in
      let good = Rattle.obo_statements.proofs.StatementsBack.passes_in is_good_tag (statements_of kind) row.0 (tags_good kind) row.1 in
      let parts = and_parts (nat_lt 0 (length row.0.tag)) (list_all is_tag_byte row.0.tag) good in
      let shape = each_row (HasShape kind) (statements_of kind) row.0 (shapes_are kind) row.1 in
      subst (Fits kind false) made.2 (record {
        some = Rattle.std.proofs.lemmas.Bool.ltb-true 0 (length row.0.tag) parts.0;
        each = AllPass-from_list_all is_tag_byte row.0.tag parts.1;
        value = subst (λ s. FitsShape s v.0) (sym shape) (statement_value row.0.statement a.body v.0 v.1);
        qualifiers = subst (λ s. FitBehind s made.0) (sym shape) (behind row.0.statement made.0 (qualifiers_fit a.sides made.0 made.1));
      })

  -- ---- groups

  abbrev group_shape : Group → ValueShape
  group_shape intersection = shapes.IdOrPair
  group_shape union = shapes.Id

  group_shape_is : (g : Group) → shape_at Term false (group_tag g) ≡ group_shape g
  unfolding tags_of shape_of
  group_shape_is intersection = refl
  group_shape_is union = refl

  id_or_pair : (v : Value) → FitsShape shapes.Id v → FitsShape shapes.IdOrPair v
  id_or_pair (value.Id word) fits = fits
  id_or_pair _ fits = absurd fits

  pair_or_id : (v : Value) → FitsShape shapes.Pair v → FitsShape shapes.IdOrPair v
  pair_or_id (value.Pair first second) fits = fits
  pair_or_id _ fits = absurd fits

  operand_fits : (g : Group) (e : ClassExpr) (v : Value) → operand_value writing g e ≡ Some v → FitsShape (group_shape g) v
  operand_fits union e v is = class_value e v is
  operand_fits intersection e v is =
      ⊎_elim (λ one. id_or_pair v (class_value e v one)) (λ two. pair_or_id v (words_value e v two))
      (option_or_some (option_map value.Id (class_id writing e)) (restriction_words writing e) v is)

  one_fits : (g : Group) (v : Value) (qs : List Qualifier) → FitsShape (group_shape g) v → All FitsQualifier qs → Fits Term false (record { tag = group_tag g; value = v; qualifiers = qs })
  one_fits g v qs fits all = record {
    some = filled g;
    each = bytes g;
    value = subst (λ s. FitsShape s v) (sym (group_shape_is g)) fits;
    qualifiers = subst (λ s. FitBehind s qs) (sym (group_shape_is g)) (group_behind g all);
  }
    where
      filled : (g : Group) → 0 < length (group_tag g)
      filled intersection = omega arith
      filled union = omega arith

      bytes : (g : Group) → AllPass is_tag_byte (group_tag g)
      bytes intersection = AllPass-from_list_all is_tag_byte (codes "intersection_of") refl
      bytes union = AllPass-from_list_all is_tag_byte (codes "union_of") refl

      group_behind : (g : Group) → All FitsQualifier qs → FitBehind (group_shape g) qs
      group_behind intersection all = all
      group_behind union all = all

  clauses_fit : (g : Group) (qs : List Qualifier) (values : List Value) → All FitsQualifier qs → ((v : Value) → In v values → FitsShape (group_shape g) v) → (c : Clause) → In c (plain_group_clauses g qs values) → Fits Term false c
  clauses_fit g qs [] all each c here = absurd here
  clauses_fit g qs (v ∷ values) all each c here =
      ⊎_elim
      (λ same. subst (Fits Term false) same (one_fits g v qs (each v (inl refl)) all))
      (λ later. let u = In-from_map (λ u. let d : Clause = record { tag = group_tag g; value = u; qualifiers = [] } in d) c values later in
      subst (Fits Term false) u.2 (one_fits g u.0 [] (each u.0 (inr u.1)) (All-nil FitsQualifier)))
      here

  -- the clauses of a group are such that lines spell them
  pub spelled_group_fits : (g : Group) (a : Axiom) (cs : List Clause) → group_spelling writing x g a ≡ Some cs → (c : Clause) → In c cs → Fits Term false c
  spelled_group_fits g a cs is c here = by_body a.body (sym (group_is_spelled_plainly writing x g a) ∙ is)
    where
      by_body : (said : Body) → plain_group_in_body writing x g a.sides said ≡ Some cs → Fits Term false c
      by_body (body.Equiv p q) is =
          let qs = option_and_then_some (λ qualifiers. option_and_then (plain_clauses_with writing g qualifiers) (other_expr x p q)) (qualifiers_of a.sides) cs is in
          let whole = option_and_then_some (plain_clauses_with writing g qs.0) (other_expr x p q) cs qs.2 in
          let operands = option_and_then_some (λ operands. option_map (λ values. plain_group_clauses g qs.0 (sorted_by value_text values)) (each_some (operand_value writing g) operands)) (group_operands g whole.0) cs whole.2 in
          let values = option_map_some (λ values. plain_group_clauses g qs.0 (sorted_by value_text values)) (each_some (operand_value writing g) operands.0) cs operands.2 in
          clauses_fit g qs.0 (sorted_by value_text values.0) (qualifiers_fit a.sides qs.0 qs.1)
          (λ v among. let e = each_some-parts (operand_value writing g) operands.0 values.0 values.1 v (sorted_by-only value_text values.0 v among) in operand_fits g e.0 v e.2)
          c (subst (In c) (sym values.2) here)
      by_body _ is = absurd (none-some cs is)
