-- The clauses of a group say its axiom.
use Rattle.std.proofs.Common.{◌≡◌, ◌<◌, ◌⊎◌, ℕ, true, false, List, [], ◌∷◌, ◌++◌, codes, map, length, Option, Some, inl, inr, ⊎_elim, refl, sym, ap, subst, ◌∙◌, arith, if◌then◌else◌, append-nil}
use Rattle.std.specs.Cmp.Lexicographic.{slice_cmp}
use Rattle.std.specs.List.{flat_map}
use Rattle.std.specs.Ordering.{is_lt, nat_cmp}
use Rattle.std.specs.declared.cmp.Ordering.{Ordering}
use Rattle.std.specs.declared.cmp.Ordering.TheVariants.{Equal, Greater, Less}
use Rattle.std.specs.Option.{IsSome, option_and_then, option_map}
use Rattle.std.proofs.lemmas.Bool.{and_parts, cases_Bool, cond-false, cond-true}
use Rattle.std.proofs.lemmas.List.Elements.{All-nil}
use Rattle.std.proofs.lemmas.List.Sums.{AllPass-from_list_all}
use Rattle.std.proofs.lemmas.Option.{none-some, same_Some}
use Rattle.text_sets.specs.Sets.{AreTold, In, SameMembers}
use Rattle.obo_tags.specs.Table.{shape_of, tags_of}
use Rattle.obo_tags.specs.declared.kind.FrameKind.TheVariants as frames
use Rattle.obo_tags.specs.declared.kind.ValueShape.TheVariants as shapes
use Rattle.obo_clause.specs.Spelling.{Spells, shape_at}
use Rattle.obo_clause.specs.Vocabulary.{is_tag_byte}
use Rattle.obo_clause.specs.declared.clause.Clause.{Clause}
use Rattle.obo_clause.specs.declared.clause.Qualifier.{Qualifier}
use Rattle.obo_clause.specs.declared.clause.Value.{Value}
use Rattle.obo_clause.specs.declared.clause.Value.TheVariants as value
use Rattle.obo_clause.proofs.AnswerLemmas.{spells-one-clause}
use Rattle.obo_clause.specs.Fits.{FitBehind, Fits, FitsQualifier, FitsShape}
use Rattle.clause_printer.specs.Printing.{behind_space, clause_text, value_text}
use Rattle.clause_printer.proofs.PrintedLines.{printed_line}
use Rattle.std.specs.Str.{bytes_eq}
use Rattle.owl_axioms.specs.Proper.{in_order, rises}
use Rattle.owl_axioms.specs.Vocabulary.{owl_nothing, owl_thing}
use Rattle.owl_axioms.specs.Text.{expr_text, iri_text, phrase, side_text, text_step}
use Rattle.owl_axioms.specs.declared.annotation.Side.{Side}
use Rattle.owl_axioms.specs.declared.body.Axiom.{Axiom}
use Rattle.owl_axioms.specs.declared.body.Body.{Body}
use Rattle.owl_axioms.specs.declared.body.Body.TheVariants as body
use Rattle.owl_axioms.specs.declared.expr.ClassExpr.{ClassExpr}
use Rattle.owl_axioms.specs.declared.expr.ClassExpr.TheVariants as expr
use Rattle.owl_axioms.specs.declared.expr.ClassExpr.TheOpen.{ClassExpr-F}
use Rattle.owl_axioms.specs.declared.expr.ClassExpr.TheFolds.{fold-roll-ClassExpr}
use Rattle.owl_axioms.specs.declared.expr.ClassExpr.TheViews.{out-ClassExpr, roll-ClassExpr, roll-out-ClassExpr}
use Rattle.text_sets.specs.Parts.{each_some}
use Rattle.text_sets.specs.Sorted.{IsBelow, Rises, by_text, sorted_by}
use Rattle.rel_io.proofs.Texts.{word_from_readable}
use Rattle.text_sets.proofs.PartLemmas.{each_some-items, each_some-parts, each_some-some, option_and_then_some, option_map_some, option_or_some}
use Rattle.text_sets.proofs.SortedLemmas.{by_text_total, sorted_by-each, sorted_by-is, sorted_by-only}
use Rattle.obo_notes.specs.Context.{Agree, Reading, Writing}
use Rattle.owl_axioms.specs.Classes.{class_named}
use Rattle.obo_statements.specs.Classes.{as_id, class_id, class_read, is_class}
use Rattle.obo_statements.specs.Restrictions.{restriction_words}
use Rattle.obo_statements.specs.Groups.{Group, expr_pair, group_expr, group_operands, group_tag, intersection, operand_plainly, operand_value, operands_in, other_expr, union}
use Rattle.obo_statements.specs.inner.PlainGroups.{plain_clauses_with, plain_group_clauses, plain_group_in_body}
use Rattle.obo_statements.proofs.PlainMeaning.{plain_group}
use Rattle.obo_notes.proofs.PartCovers.{some_value}
use Rattle.obo_statements.proofs.StatementLaws.{both_orders, class_id-back, class_id-readable, class_text, is_class-back, nothing_text, thing_text, words_back}
use Rattle.obo_notes.proofs.Guards.{same_bytes, where_true_some}
use Rattle.obo_notes.proofs.NoteLaws.{same_sides}
use Rattle.obo_notes.specs.Keys.{side_of_qualifier}
use Rattle.obo_notes.specs.Notes.{qualifiers_of, sorted_sides}
use Rattle.text_sets.proofs.PartLemmas.{each_some-items, each_some-parts, Splits-nothing}

-- ---- rising texts, as a test and as a fact

less_from_test : (o : Ordering) → is_lt o ≡ true → o ≡ Less
less_from_test Less is = refl
less_from_test Equal is = let h : false ≡ true = is in absurd (cc)
less_from_test Greater is = let h : false ≡ true = is in absurd (cc)

below_next : {X : Type 0} (text : X → List ℕ) (x y : X) (xs : List X) → by_text text x y ≡ Less → IsBelow text y xs → IsBelow text x xs
below_next text x y [] less all = tt
below_next text x y (z ∷ xs) less all = ((by_text_total text).trans x y z less all.0, below_next text x y xs less all.1)

pub Rises-from_test : {X : Type 0} (text : X → List ℕ) (xs : List X) → rises (map text xs) ≡ true → Rises text xs
unfolding rises
Rises-from_test text [] is = tt
Rises-from_test text (x ∷ []) is = (tt, tt)
Rises-from_test text (x ∷ y ∷ xs) is =
    let parts = and_parts (is_lt (slice_cmp nat_cmp (text x) (text y))) (rises (map text (y ∷ xs))) is in
    let less = less_from_test (by_text text x y) parts.0 in
    let rest = Rises-from_test text (y ∷ xs) parts.1 in
    ((less, below_next text x y xs less rest.0), rest)

-- ---- values of groups are told by what is printed

abbrev operand_clause : Value → Clause
operand_clause one = record { tag = codes "intersection_of"; value = one; qualifiers = [] }

operand_shape : shape_at frames.Term false (codes "intersection_of") ≡ shapes.IdOrPair
unfolding tags_of shape_of
operand_shape = refl

operand_fits : (one : Value) → FitsShape shapes.IdOrPair one → Fits frames.Term false (operand_clause one)
operand_fits one fits = record {
  some = omega arith;
  each = AllPass-from_list_all is_tag_byte (codes "intersection_of") refl;
  value = subst (λ shape. FitsShape shape one) (sym operand_shape) fits;
  qualifiers = subst (λ shape. FitBehind shape []) (sym operand_shape) (All-nil FitsQualifier);
}

operand_text : (one other : Value) → value_text one ≡ value_text other → clause_text (operand_clause one) ≡ clause_text (operand_clause other)
unfolding clause_text
operand_text one other same = ap (λ text. codes "intersection_of" ++ 58 ∷ (behind_space text ++ [])) same

pub same_operand : (one other : Value) → FitsShape shapes.IdOrPair one → FitsShape shapes.IdOrPair other → value_text one ≡ value_text other → one ≡ other
same_operand one other fits also same =
    let a = printed_line frames.Term false (operand_clause one) (operand_fits one fits) in
    let b = printed_line frames.Term false (operand_clause other) (operand_fits other also) in
    let clauses = spells-one-clause frames.Term false (clause_text (operand_clause one)) (operand_clause one) (operand_clause other) a.spells
    (subst (λ line. Spells frames.Term false line (operand_clause other)) (sym (operand_text one other same)) b.spells) in
    ap (λ (c : Clause). c.value) clauses

module _ (reading : Reading) (writing : Writing) (agree : Agree reading writing) (group : Group) where
  id_value-back : (one : ClassExpr) (v : Value) → as_id (class_id writing one) ≡ Some v → operand_plainly reading group v ≡ Some one
  id_value-back one v is =
      let id = option_map_some value.Id (class_id writing one) v is in
      subst (λ w. operand_plainly reading group w ≡ Some one) id.2 (read_id group id.0 one (class_id-back reading writing agree [] one id.0 id.1))
    where
      read_id : (g : Group) (id : List ℕ) (one : ClassExpr) → class_read reading id ≡ one → operand_plainly reading g (value.Id id) ≡ Some one
      read_id intersection id one same = ap Some same
      read_id union id one same = ap Some same

  id_fits : (one : ClassExpr) (v : Value) → as_id (class_id writing one) ≡ Some v → FitsShape shapes.IdOrPair v
  id_fits one v is =
      let id = option_map_some value.Id (class_id writing one) v is in
      subst (FitsShape shapes.IdOrPair) id.2 (word_from_readable id.0 (class_id-readable reading writing agree [] one id.0 id.1))

  operand-back : (g : Group) → ((one : ClassExpr) (v : Value) → as_id (class_id writing one) ≡ Some v → operand_plainly reading g v ≡ Some one) → (one : ClassExpr) (v : Value) → operand_value writing g one ≡ Some v
      → (operand_plainly reading g v ≡ Some one) × FitsShape shapes.IdOrPair v
  operand-back union ids one v is = (ids one v is, id_fits one v is)
  operand-back intersection ids one v is =
      ⊎_elim
      (λ id. (ids one v id, id_fits one v id))
      (λ pair.
      let words = words_back reading writing agree [] one v pair in
      subst (λ w. (operand_plainly reading intersection w ≡ Some one) × FitsShape shapes.IdOrPair w) words.value_is
      (ap Some words.same, (word_from_readable words.role words.role_fits, word_from_readable words.filler words.filler_fits)))
      (option_or_some (as_id (class_id writing one)) (restriction_words writing one) v is)

  -- ---- the clauses of a group, read

  pub read_clauses : (qualifiers : List Qualifier) (values : List Value) → each_some (λ (clause : Clause). operand_plainly reading group clause.value) (plain_group_clauses group qualifiers values) ≡ each_some (operand_plainly reading group) values
  read_clauses qualifiers [] = refl
  read_clauses qualifiers (v ∷ values) = ap (λ o. option_and_then (λ y. option_map (λ ys. y ∷ ys) o) (operand_plainly reading group v)) (read_more values)
    where
      read_more : (vs : List Value) → each_some (λ (clause : Clause). operand_plainly reading group clause.value) (map (λ w. let c : Clause = record { tag = group_tag group; value = w; qualifiers = [] } in c) vs) ≡ each_some (operand_plainly reading group) vs
      read_more [] = refl
      read_more (w ∷ vs) = ap (λ o. option_and_then (λ y. option_map (λ ys. y ∷ ys) o) (operand_plainly reading group w)) (read_more vs)

  -- the values of operands are told by what is printed of them
  pub told_values : (operands : List ClassExpr) (values : List Value) → each_some (operand_value writing group) operands ≡ Some values → AreTold value_text values
  told_values operands values is = λ v w p q same.
      let back = operand-back group id_value-back in
      let a = each_some-parts (operand_value writing group) operands values is v p in
      let b = each_some-parts (operand_value writing group) operands values is w q in
      same_operand v w (back a.0 v a.2).1 (back b.0 w b.2).1 same

  -- the operands are read, in some order
  pub operands_read : (operands : List ClassExpr) (values : List Value) → each_some (operand_value writing group) operands ≡ Some values
      → (found : List ClassExpr) × (each_some (operand_plainly reading group) (sorted_by value_text values) ≡ Some found) × SameMembers found operands
  operands_read operands values is =
      let sorted = sorted_by value_text values in
      let back = operand-back group id_value-back in
      let from_value : (v : Value) → In v sorted → (c : ClassExpr) × In c operands × (operand_value writing group c ≡ Some v) =
      λ v here. each_some-parts (operand_value writing group) operands values is v (sorted_by-only value_text values v here) in
      let told : AreTold value_text values = λ v w p q same.
      let a = each_some-parts (operand_value writing group) operands values is v p in
      let b = each_some-parts (operand_value writing group) operands values is w q in
      same_operand v w (back a.0 v a.2).1 (back b.0 w b.2).1 same in
      let found = some_value (each_some (operand_plainly reading group) sorted) (each_some-some (operand_plainly reading group) sorted (λ v here.
      let c = from_value v here in subst (λ (o : Option ClassExpr). IsSome o) (sym (back c.0 v c.2).0) refl)) in (
        found.0,
        found.1,
        (λ c. (
          (λ here.
              let v = each_some-parts (operand_plainly reading group) sorted found.0 found.1 c here in
              let d = from_value v.0 v.1 in
              subst (λ e. In e operands) (same_Some d.0 c (sym (back d.0 v.0 d.2).0 ∙ v.2)) d.1),
          (λ here.
              let v = each_some-items (operand_value writing group) operands values is c here in
              let among = sorted_by-each value_text values told v.0 v.1 in
              let e = each_some-items (operand_plainly reading group) sorted found.0 found.1 v.0 among in
              subst (λ z. In z found.0) (same_Some e.0 c (sym e.2 ∙ (back c v.0 v.2).0)) e.1),
        )),
      )

-- ---- the text of a group is that of no class

first_byte : List ℕ → ℕ
first_byte [] = 0
first_byte (b ∷ bs) = b

group_text : (g : Group) (operands : List ClassExpr) → first_byte (expr_text (group_expr g operands)) ≡ 79
unfolding first_byte expr_text text_step phrase roll-ClassExpr denote.Hole.Carrier.roll
group_text intersection operands = ap first_byte (fold-roll-ClassExpr (List ℕ) text_step (ClassExpr-F.And operands))
group_text union operands = ap first_byte (fold-roll-ClassExpr (List ℕ) text_step (ClassExpr-F.Or operands))

pub class_named-text : (iri : List ℕ) → expr_text (class_named iri) ≡ iri_text iri
unfolding class_named
class_named-text iri =
    elim (bytes_eq iri owl_thing) as (λ b. bytes_eq iri owl_thing ≡ b → expr_text (if b then expr.Thing else (if bytes_eq iri owl_nothing then expr.Nothing else expr.Class iri)) ≡ iri_text iri) [
      | true ↦ λ same. thing_text ∙ ap iri_text (sym (same_bytes iri owl_thing same))
      | false ↦ λ _.
          elim (bytes_eq iri owl_nothing) as (λ b. bytes_eq iri owl_nothing ≡ b → expr_text (if b then expr.Nothing else expr.Class iri) ≡ iri_text iri) [
            | true ↦ λ same. nothing_text ∙ ap iri_text (sym (same_bytes iri owl_nothing same))
            | false ↦ λ _. class_text iri
          ] refl
    ] refl

class_first : (iri : List ℕ) → first_byte (iri_text iri) ≡ 60
unfolding first_byte iri_text
class_first iri = refl

pub group_is_no_class : (g : Group) (operands : List ClassExpr) (x : List ℕ) → expr_text (group_expr g operands) ≡ expr_text (class_named x) → ⊥
group_is_no_class g operands x same =
    let h : first_byte (iri_text x) ≡ 79 = sym (ap first_byte (same ∙ class_named-text x)) ∙ group_text g operands in
    let k : first_byte (iri_text x) ≡ 60 = class_first x in
    absurd (omega (arith, h, k))

-- ---- the pair

pair_of_group : (x : List ℕ) (c d whole : ClassExpr) → other_expr x c d ≡ Some whole → in_order (expr_text c) (expr_text d) ≡ true → (expr_text whole ≡ expr_text (class_named x) → ⊥) → expr_pair (class_named x) whole ≡ body.Equiv c d
pair_of_group x c d whole is ordered apart =
    ⊎_elim
    (λ first.
    let other = same_Some d whole (sym (cond-true _ _ _ first) ∙ is) in
    (λ i. expr_pair (is_class-back x c first i) (sym other i)) ∙ cond-true (in_order (expr_text c) (expr_text d)) (body.Equiv c d) (body.Equiv d c) ordered)
    (λ later.
    let second = where_true_some (is_class x d) (Some c) whole (sym (cond-false _ _ _ later) ∙ is) in
    let other = same_Some c whole second.1 in
    let named = is_class-back x d second.0 in
    let texts : expr_text c ≡ expr_text d → ⊥ = λ same. apart (ap expr_text (sym other) ∙ same ∙ ap expr_text (sym named)) in
    (λ i. expr_pair (named i) (sym other i)) ∙ swapped c d ordered texts)
    (cases_Bool (is_class x c))
  where
    swapped : (c d : ClassExpr) → in_order (expr_text c) (expr_text d) ≡ true → (expr_text c ≡ expr_text d → ⊥) → expr_pair d c ≡ body.Equiv c d
    swapped c d ordered texts =
        elim (in_order (expr_text d) (expr_text c)) as (λ b. in_order (expr_text d) (expr_text c) ≡ b → (if b then body.Equiv d c else body.Equiv c d) ≡ body.Equiv c d) [
          | true ↦ λ also. absurd (texts (both_orders (expr_text c) (expr_text d) ordered also))
          | false ↦ λ _. refl
        ] refl

-- ---- the operands of an expression

layer_operands : (g : Group) (layer : ClassExpr-F ClassExpr) (operands : List ClassExpr) → operands_in g layer ≡ Some operands → group_expr g operands ≡ roll-ClassExpr layer
unfolding roll-ClassExpr denote.Hole.Carrier.roll
layer_operands intersection (ClassExpr-F.And all) operands is = ap expr.And (sym (same_Some all operands is))
layer_operands union (ClassExpr-F.Or all) operands is = ap expr.Or (sym (same_Some all operands is))
layer_operands _ _ operands is = absurd (none-some operands is)

pub whole_of : (g : Group) (whole : ClassExpr) (operands : List ClassExpr) → group_operands g whole ≡ Some operands → group_expr g operands ≡ whole
whole_of g whole operands is = layer_operands g (out-ClassExpr whole) operands is ∙ roll-out-ClassExpr whole

-- ---- the law

module _ (reading : Reading) (writing : Writing) (agree : Agree reading writing) (group : Group) where
  -- the group has operands that rise
  pub record IsRising (said : Body) : Type 0 where
    pub rising : (c d whole : ClassExpr) (operands : List ClassExpr) → said ≡ body.Equiv c d → (whole ≡ c) ⊎ (whole ≡ d) → group_operands group whole ≡ Some operands → Rises expr_text operands × (0 < length operands)

  all_sides : (qualifiers : List Qualifier) (values : List Value) → 0 < length values → flat_map (λ (clause : Clause). map side_of_qualifier clause.qualifiers) (plain_group_clauses group qualifiers values) ≡ map side_of_qualifier qualifiers
  all_sides qualifiers [] some = absurd (omega arith)
  all_sides qualifiers (v ∷ values) some = ap (λ more. map side_of_qualifier qualifiers ++ more) (none_more values) ∙ append-nil (map side_of_qualifier qualifiers)
    where
      none_more : (vs : List Value) → flat_map (λ (clause : Clause). map side_of_qualifier clause.qualifiers) (map (λ w. let c : Clause = record { tag = group_tag group; value = w; qualifiers = [] } in c) vs) ≡ []
      none_more [] = refl
      none_more (w ∷ vs) = none_more vs

  some_member : (operands : List ClassExpr) (sorted : List Value) (found : List ClassExpr) → 0 < length operands → each_some (operand_plainly reading group) sorted ≡ Some found → SameMembers found operands → 0 < length sorted
  some_member [] sorted found some is same = absurd (omega arith)
  some_member (c ∷ operands) [] found some is same = absurd (subst (In c) (sym (same_Some [] found is)) ((same c).1 (inl refl)))
  some_member (c ∷ operands) (v ∷ sorted) found some is same = omega arith

  whole_is : (x : List ℕ) (c d whole : ClassExpr) → other_expr x c d ≡ Some whole → (whole ≡ c) ⊎ (whole ≡ d)
  whole_is x c d whole is =
      ⊎_elim
      (λ first. inr (sym (same_Some d whole (sym (cond-true _ _ _ first) ∙ is))))
      (λ later. inl (sym (same_Some c whole (where_true_some (is_class x d) (Some c) whole (sym (cond-false _ _ _ later) ∙ is)).1)))
      (cases_Bool (is_class x c))

  pub group_reads_back : (x : List ℕ) (c d : ClassExpr) (sides : List Side) (clauses : List Clause) → in_order (expr_text c) (expr_text d) ≡ true → IsRising (body.Equiv c d) → Rises side_text sides
      → plain_group_in_body writing x group sides (body.Equiv c d) ≡ Some clauses → plain_group reading x group clauses ≡ Some (record { body = body.Equiv c d; sides = sides })
  group_reads_back x c d sides clauses ordered rising rises is =
      let qs = option_and_then_some (λ qualifiers. option_and_then (plain_clauses_with writing group qualifiers) (other_expr x c d)) (qualifiers_of sides) clauses is in
      let whole = option_and_then_some (plain_clauses_with writing group qs.0) (other_expr x c d) clauses qs.2 in
      let operands = option_and_then_some (λ operands. option_map (λ values. plain_group_clauses group qs.0 (sorted_by value_text values)) (each_some (operand_value writing group) operands)) (group_operands group whole.0) clauses whole.2 in
      let values = option_map_some (λ values. plain_group_clauses group qs.0 (sorted_by value_text values)) (each_some (operand_value writing group) operands.0) clauses operands.2 in
      let sorted = sorted_by value_text values.0 in
      let read = operands_read reading writing agree group operands.0 values.0 values.1 in
      let proper = rising.rising c d whole.0 operands.0 refl (whole_is x c d whole.0 whole.1) operands.1 in
      let some = some_member operands.0 sorted read.0 proper.1 read.1 read.2 in
      let each = read_clauses reading writing agree group qs.0 sorted ∙ read.1 in
      let ops : sorted_by expr_text read.0 ≡ operands.0 = sorted_by-is expr_text read.0 operands.0 proper.0 read.2 in
      let same_whole = whole_of group whole.0 operands.0 operands.1 in
      let apart = λ (same : expr_text whole.0 ≡ expr_text (class_named x)). group_is_no_class group operands.0 x (ap expr_text same_whole ∙ same) in
      let said : expr_pair (class_named x) (group_expr group (sorted_by expr_text read.0)) ≡ body.Equiv c d =
      ap (λ o. expr_pair (class_named x) (group_expr group o)) ops ∙ ap (expr_pair (class_named x)) same_whole ∙ pair_of_group x c d whole.0 whole.1 ordered apart in
      let sides_are = ap sorted_sides (all_sides qs.0 sorted some) ∙ same_sides sides [] sides qs.0 rises (Splits-nothing sides) qs.1 in
      subst (λ cs. plain_group reading x group cs ≡ Some (record { body = body.Equiv c d; sides = sides })) values.2
      (ap (option_map (λ found. let a : Axiom = record { body = expr_pair (class_named x) (group_expr group (sorted_by expr_text found)); sides = sorted_sides (flat_map (λ (clause : Clause). map side_of_qualifier clause.qualifiers) (plain_group_clauses group qs.0 sorted)) } in a)) each
      ∙ (λ i. Some (record { body = said i; sides = sides_are i })))

-- ---- any list with the clauses of a group

pub each_some-set : {X Y : Type 0} (part : X → Option Y) (xs ys : List X) (found : List Y) → SameMembers xs ys → each_some part ys ≡ Some found → (other : List Y) × (each_some part xs ≡ Some other) × SameMembers other found
each_some-set part xs ys found same is =
    let all = some_value (each_some part xs) (each_some-some part xs (λ x here. let y = each_some-items part ys found is x ((same x).0 here) in subst (λ o. IsSome o) (sym y.2) refl)) in (
      all.0,
      all.1,
      λ y. (
        (λ here.
            let x = each_some-parts part xs all.0 all.1 y here in
            let z = each_some-items part ys found is x.0 ((same x.0).0 x.1) in
            subst (λ w. In w found) (same_Some z.0 y (sym z.2 ∙ x.2)) z.1),
        (λ here.
            let x = each_some-parts part ys found is y here in
            let z = each_some-items part xs all.0 all.1 x.0 ((same x.0).1 x.1) in
            subst (λ w. In w all.0) (same_Some z.0 y (sym z.2 ∙ x.2)) z.1),
      ),
    )

same_flat_map : {C A : Type 0} (f : A → List C) (xs ys : List A) → SameMembers xs ys → SameMembers (flat_map f xs) (flat_map f ys)
same_flat_map f xs ys same c = (
  (λ here. let x = Rattle.text_sets.proofs.SetLemmas.In-from_flat_map f c xs here in Rattle.text_sets.proofs.SetLemmas.In-flat_map f c ys x.0 ((same x.0).0 x.1) x.2),
  (λ here. let x = Rattle.text_sets.proofs.SetLemmas.In-from_flat_map f c ys here in Rattle.text_sets.proofs.SetLemmas.In-flat_map f c xs x.0 ((same x.0).1 x.1) x.2),
)

module _ (reading : Reading) (writing : Writing) (agree : Agree reading writing) (group : Group) where
  pub group_reads_set : (x : List ℕ) (c d : ClassExpr) (sides : List Side) (clauses others : List Clause) → in_order (expr_text c) (expr_text d) ≡ true → IsRising reading writing agree group (body.Equiv c d) → Rises side_text sides
      → plain_group_in_body writing x group sides (body.Equiv c d) ≡ Some clauses → SameMembers others clauses → plain_group reading x group others ≡ Some (record { body = body.Equiv c d; sides = sides })
  group_reads_set x c d sides clauses others ordered rising rises is same =
      let qs = option_and_then_some (λ qualifiers. option_and_then (plain_clauses_with writing group qualifiers) (other_expr x c d)) (qualifiers_of sides) clauses is in
      let whole = option_and_then_some (plain_clauses_with writing group qs.0) (other_expr x c d) clauses qs.2 in
      let operands = option_and_then_some (λ operands. option_map (λ values. plain_group_clauses group qs.0 (sorted_by value_text values)) (each_some (operand_value writing group) operands)) (group_operands group whole.0) clauses whole.2 in
      let values = option_map_some (λ values. plain_group_clauses group qs.0 (sorted_by value_text values)) (each_some (operand_value writing group) operands.0) clauses operands.2 in
      let sorted = sorted_by value_text values.0 in
      let read = operands_read reading writing agree group operands.0 values.0 values.1 in
      let proper = rising.rising c d whole.0 operands.0 refl (whole_is reading writing agree group x c d whole.0 whole.1) operands.1 in
      let some = some_member reading writing agree group operands.0 sorted read.0 proper.1 read.1 read.2 in
      let each = read_clauses reading writing agree group qs.0 sorted ∙ read.1 in
      let members : SameMembers others (plain_group_clauses group qs.0 sorted) = subst (λ cs. SameMembers others cs) (sym values.2) same in
      let again = each_some-set (λ (clause : Clause). operand_plainly reading group clause.value) others (plain_group_clauses group qs.0 sorted) read.0 members each in
      let same_operands : SameMembers again.0 operands.0 = λ e. ((λ h. (read.2 e).0 ((again.2 e).0 h)), (λ h. (again.2 e).1 ((read.2 e).1 h))) in
      let ops : sorted_by expr_text again.0 ≡ operands.0 = sorted_by-is expr_text again.0 operands.0 proper.0 same_operands in
      let same_whole = whole_of group whole.0 operands.0 operands.1 in
      let apart = λ (same : expr_text whole.0 ≡ expr_text (class_named x)). group_is_no_class group operands.0 x (ap expr_text same_whole ∙ same) in
      let said : expr_pair (class_named x) (group_expr group (sorted_by expr_text again.0)) ≡ body.Equiv c d =
      ap (λ o. expr_pair (class_named x) (group_expr group o)) ops ∙ ap (expr_pair (class_named x)) same_whole ∙ pair_of_group x c d whole.0 whole.1 ordered apart in
      let of_clause = λ (clause : Clause). map side_of_qualifier clause.qualifiers in
      let flat = same_flat_map of_clause others (plain_group_clauses group qs.0 sorted) members in
      let told = Rattle.obo_notes.proofs.NoteLaws.same_qualifiers sides qs.0 qs.1 in
      let all = all_sides reading writing agree group qs.0 sorted some in
      let sides_are : sorted_sides (flat_map of_clause others) ≡ sides = sorted_by-is side_text (flat_map of_clause others) sides rises (λ side. (
        (λ here. (told side).0 (subst (In side) all ((flat side).0 here))),
        (λ here. (flat side).1 (subst (In side) (sym all) ((told side).1 here))),
      )) in
      ap (option_map (λ found. let a : Axiom = record { body = expr_pair (class_named x) (group_expr group (sorted_by expr_text found)); sides = sorted_sides (flat_map of_clause others) } in a)) again.1
      ∙ (λ i. Some (record { body = said i; sides = sides_are i }))

  -- a group has a clause
  pub group_has_clause : (x : List ℕ) (c d : ClassExpr) (sides : List Side) (clauses : List Clause) → IsRising reading writing agree group (body.Equiv c d)
      → plain_group_in_body writing x group sides (body.Equiv c d) ≡ Some clauses → (clause : Clause) × In clause clauses
  group_has_clause x c d sides clauses rising is =
      let qs = option_and_then_some (λ qualifiers. option_and_then (plain_clauses_with writing group qualifiers) (other_expr x c d)) (qualifiers_of sides) clauses is in
      let whole = option_and_then_some (plain_clauses_with writing group qs.0) (other_expr x c d) clauses qs.2 in
      let operands = option_and_then_some (λ operands. option_map (λ values. plain_group_clauses group qs.0 (sorted_by value_text values)) (each_some (operand_value writing group) operands)) (group_operands group whole.0) clauses whole.2 in
      let values = option_map_some (λ values. plain_group_clauses group qs.0 (sorted_by value_text values)) (each_some (operand_value writing group) operands.0) clauses operands.2 in
      let read = operands_read reading writing agree group operands.0 values.0 values.1 in
      let proper = rising.rising c d whole.0 operands.0 refl (whole_is reading writing agree group x c d whole.0 whole.1) operands.1 in
      subst (λ cs. (clause : Clause) × In clause cs) values.2 (first qs.0 (sorted_by value_text values.0) (some_member reading writing agree group operands.0 (sorted_by value_text values.0) read.0 proper.1 read.1 read.2))
    where
      first : (qs : List Qualifier) (vs : List Value) → 0 < length vs → (clause : Clause) × In clause (plain_group_clauses group qs vs)
      first qs [] some = absurd (omega arith)
      first qs (v ∷ vs) some = (record { tag = group_tag group; value = v; qualifiers = qs }, inl refl)
