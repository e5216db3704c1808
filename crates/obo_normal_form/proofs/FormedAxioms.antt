-- Each axiom of a sound document has a form.
use Rattle.std.proofs.Common.{◌≡◌, ◌≤◌, ℕ, Bool, true, false, not, ◌&&◌, ◌||◌, List, [], ◌∷◌, ◌++◌, codes, map, length, Option, None, Some, inl, inr, ⊎_elim, refl, sym, ap, subst, ◌∙◌, arith}
use Rattle.std.specs.BTreeSet.{insert_key}
use Rattle.std.specs.List.{filter_map, flat_map, list_all}
use Rattle.std.specs.Option.{IsSome, option_and_then, option_map, option_map_or, option_or}
use Rattle.std.specs.Ordering.{is_lt, match_ordering, nat_cmp}
use Rattle.std.specs.Cmp.Lexicographic.{slice_cmp}
use Rattle.std.specs.Prelude.{nat_le}
use Rattle.std.specs.Str.{bytes_eq}
use Rattle.std.specs.declared.cmp.Ordering.TheVariants.{Equal, Greater, Less}
use Rattle.std.proofs.lemmas.Bool.{and_from, and_parts, both_ways, cases_Bool, cond-false, cond-true, false_from_ne_true}
use Rattle.std.proofs.lemmas.Bool.Decides.{nat_tests}
use Rattle.std.proofs.lemmas.Option.{none-some, same_Some}
use Rattle.obo_tags.specs.declared.kind.FrameKind.{FrameKind}
use Rattle.obo_tags.specs.declared.kind.FrameKind.TheVariants.{Header, Instance, Term, Typedef}
use Rattle.obo_clause.specs.Spelling.{shape_at}
use Rattle.obo_clause.specs.declared.clause.Clause.{Clause}
use Rattle.obo_clause.specs.declared.clause.Qualifier.{Qualifier}
use Rattle.obo_clause.specs.declared.clause.Value.{Value}
use Rattle.obo_clause.specs.declared.clause.Value.TheVariants as value
use Rattle.clause_printer.specs.Printing.{value_text}
use Rattle.text_sets.proofs.SetLemmas.{In-filter_map, In-from_filter, In-from_flat_map, In-from_map, In-map}
use Rattle.text_sets.specs.Sets.{In}
use Rattle.owl_axioms.specs.Proper.{are_proper_operands, in_order, is_proper_body, is_proper_expr, is_proper_pair, proper_step, rises}
use Rattle.owl_axioms.specs.Text.{expr_text, side_text}
use Rattle.owl_axioms.specs.declared.annotation.Side.{Side}
use Rattle.owl_axioms.specs.declared.body.Axiom.{Axiom}
use Rattle.owl_axioms.specs.declared.body.Body.{Body}
use Rattle.owl_axioms.specs.declared.body.Body.TheVariants as body
use Rattle.owl_axioms.specs.declared.expr.ClassExpr.{ClassExpr}
use Rattle.owl_axioms.specs.declared.expr.ClassExpr.TheFolds.{para-roll-ClassExpr}
use Rattle.owl_axioms.specs.declared.expr.ClassExpr.TheOpen.{ClassExpr-F}
use Rattle.owl_axioms.specs.declared.expr.ClassExpr.TheViews.{out-roll-ClassExpr, roll-ClassExpr}
use Rattle.owl_axioms.specs.declared.name.Kind.{Kind}
use Rattle.owl_axioms.specs.declared.name.Kind.TheVariants as kinds
use Rattle.owl_axioms.specs.declared.name.Name.{Name}
use Rattle.text_sets.specs.Parts.{each_some, first_some}
use Rattle.text_sets.specs.Sorted.{Rises, by_text, sorted_by, sorted_on}
use Rattle.text_sets.proofs.PartLemmas.{each_some-parts, each_some-some, first_some-found, first_some-some, option_map_some}
use Rattle.text_sets.proofs.SortedLemmas.{Rises-sorted_by, sorted_by-only}
use Rattle.obo_frames.specs.Framed.{Framed, framed}
use Rattle.obo_mapping.specs.Axioms.{Home, Situation, at_home, axiom_spelled, body_spelled, entity_of, frame_id, frame_kind, home_at, home_of, is_logical, name_as, same_kind, statement_spelled}
use Rattle.obo_notes.specs.Context.{Reading, Writing, where_true, writing_in}
use Rattle.obo_mapping.specs.Documents.{clauses_for, declared_in, group_in, group_of, group_spelled, has_reserved_key, has_tag, is_broken, is_header, is_import, is_misfit, is_raw, is_term, is_truth_value, is_untranslatable, owl, situation_of, space_of}
use Rattle.obo_notes.specs.Forms.{first_part}
use Rattle.obo_notes.specs.Keys.{is_reserved_key, side_of_qualifier}
use Rattle.obo_notes.specs.Notes.{qualifiers_of, sorted_sides}
use Rattle.obo_mapping.specs.Sound.{IsSound}
use Rattle.owl_axioms.specs.Classes.{class_named}
use Rattle.obo_statements.specs.Classes.{class_id, class_iri, class_read, is_class}
use Rattle.obo_statements.specs.Restrictions.{restriction, restriction_words}
use Rattle.obo_statements.specs.Values.{Statement, stated_plainly, value_plainly}
use Rattle.obo_statements.specs.Statements.{StatementRow, statement_in, statement_spelling, statements_of}
use Rattle.obo_statements.specs.Anchors.{anchors, class_anchor, class_entity}
use Rattle.obo_statements.specs.Groups.{Group, expr_pair, group_expr, group_operands, group_spelling, group_tag, intersection, operand_plainly, operand_value, operands_in, other_expr, union}
use Rattle.obo_statements.specs.inner.PlainGroups.{plain_clauses_with, plain_group_clauses, plain_group_in_body}
use Rattle.obo_statements.proofs.PlainGroups.{group_is_spelled_plainly}
use Rattle.obo_normal_form.proofs.FormedNotes.{HasForm, agree, all_not_six, declaration_formed, entity_iri, formed_by, frame_id_some, frame_of_entity, header_note_formed, note_formed, or_first, spacing_formed}
use Rattle.obo_normal_form.proofs.FormedStatements.{OfQualifier, anchor_kind, class_anchor_named, class_read_some, clean_of, covers_at, iri_named, is_class_named, named_proper, order_total, restriction_proper, restriction_some, sides_some, some_map, then_some}
use Rattle.obo_notes.proofs.Guards.{same_bytes, where_true_some}
use Rattle.obo_statements.proofs.PlainMeaning.{grouped_plainly, plain_by, spelling_is_plain}
use Rattle.obo_mapping.proofs.OfSet.{any_from_in}
use Rattle.obo_normal_form.proofs.OwlCases as source
use Rattle.obo_notes.proofs.PartCovers.{All-In, some_value}
use Rattle.obo_mapping.proofs.PlainClauses.{is_statement, statement_tag}
use Rattle.obo_statements.proofs.StatementsBack.{passes_in}
use Rattle.obo_normal_form.proofs.SettleLaws.{fits_quals}
use Rattle.obo_mapping.proofs.SinglesLaw.{IsStatement, home_is}
use Rattle.obo_mapping.proofs.SpelledLaw.{is_declared_from}

-- ---- a least home

insert_some : {X : Type 0} (text : X → List ℕ) (ys : List X) (x : X) → IsSome (first_part (insert_key (by_text text) ys x))
insert_some text [] x = refl
insert_some text (y ∷ ys) x =
    elim (by_text text x y) as (λ o. IsSome (first_part (match_ordering o (x ∷ y ∷ ys) (y ∷ ys) (y ∷ insert_key (by_text text) ys x)))) [
      | Less ↦ refl
      | Equal ↦ refl
      | Greater ↦ refl
    ]

sorted_some : {X : Type 0} (text : X → List ℕ) (xs : List X) (x : X) → In x xs → IsSome (first_part (sorted_by text xs))
unfolding sorted_on
sorted_some text [] x here = absurd here
sorted_some text (y ∷ xs) x here = insert_some text (sorted_by text xs) y

-- ---- kinds

abbrev logical_kind : FrameKind → Kind
logical_kind Header = kinds.Class
logical_kind Term = kinds.Class
logical_kind Typedef = kinds.Role
logical_kind Instance = kinds.Individual

rows_kind : (kind : FrameKind) → list_all (λ (row : StatementRow). same_kind (anchor_kind row.statement) (logical_kind kind)) (statements_of kind) ≡ true
unfolding statements_of
rows_kind Header = refl
rows_kind Term = refl
rows_kind Typedef = refl
rows_kind Instance = refl

kind_from_same : (one other : Kind) → same_kind one other ≡ true → one ≡ other
kind_from_same kinds.Class kinds.Class is = refl
kind_from_same kinds.Role kinds.Role is = refl
kind_from_same kinds.Individual kinds.Individual is = refl
kind_from_same kinds.AnnotationProperty kinds.AnnotationProperty is = refl
kind_from_same _ _ is = let h : false ≡ true = is in absurd (cc)

logical_in : (kind : FrameKind) (one : Kind) → frame_kind one ≡ kind → is_logical one ≡ true → one ≡ logical_kind kind
logical_in kind kinds.Class is logical = ap logical_kind is
logical_in kind kinds.Role is logical = ap logical_kind is
logical_in kind kinds.Individual is logical = ap logical_kind is
logical_in kind kinds.AnnotationProperty is logical = let h : false ≡ true = logical in absurd (cc)

-- ---- statements

statement_body : (w : Writing) (declared : List Name) (a : Axiom) (said : Body) → IsStatement said → body_spelled w declared a said ≡ statement_spelled w declared a
statement_body w declared a (body.Declaration name) one = absurd one
statement_body w declared a (body.Note subject property noted) one = absurd one
statement_body w declared a (body.OntologyNote property noted) one = absurd one
statement_body w declared a _ one = refl

stated_false : (reading : Reading) (x : List ℕ) (s : Statement) → stated_plainly reading x s (value.Bool false) ≡ None
unfolding stated_plainly
stated_false reading x Statement.below_class = refl
stated_false reading x Statement.restricted = refl
stated_false reading x Statement.same_class = refl
stated_false reading x Statement.disjoint_class = refl
stated_false reading x Statement.below_role = refl
stated_false reading x Statement.same_role = refl
stated_false reading x Statement.disjoint_role = refl
stated_false reading x Statement.inverse_role = refl
stated_false reading x (Statement.has_character c) = refl
stated_false reading x Statement.has_domain = refl
stated_false reading x Statement.has_range = refl
stated_false reading x Statement.over = refl
stated_false reading x Statement.chain = refl
stated_false reading x Statement.member = refl
stated_false reading x Statement.related = refl

stated_not_false : (reading : Reading) (x : List ℕ) (s : Statement) (v : Value) (b : Body) → stated_plainly reading x s v ≡ Some b → is_truth_value false v ≡ false
stated_not_false reading x s (value.Bool false) b is = absurd (none-some b (sym (stated_false reading x s) ∙ is))
stated_not_false reading x s (value.Bool true) b is = refl
stated_not_false reading x s _ b is = refl

operand_not_false : (reading : Reading) (g : Group) (v : Value) (e : ClassExpr) → operand_plainly reading g v ≡ Some e → is_truth_value false v ≡ false
operand_not_false reading intersection (value.Bool truth) e is = absurd (none-some e is)
operand_not_false reading union (value.Bool truth) e is = absurd (none-some e is)
operand_not_false reading g _ e is = refl

no_misfit : (f : Framed) → is_misfit f ≡ false → is_import f ≡ false → is_truth_value false f.clause.value ≡ false → has_reserved_key f ≡ false
no_misfit f free import untrue =
    false_from_ne_true (has_reserved_key f) (λ six. both_ways (is_misfit f) free ((λ i. is_raw f.clause.value || (six i && not (import i || untrue i))) ∙ or_true (is_raw f.clause.value)))
  where
    or_true : (a : Bool) → (a || true) ≡ true
    or_true true = refl
    or_true false = refl

no_import : (f : Framed) → has_tag (codes "import") f ≡ false → is_import f ≡ false
no_import f is = middle (is_header f) (has_tag (codes "import") f) (not (is_raw f.clause.value)) is
  where
    middle : (a b c : Bool) → b ≡ false → (a && b && c) ≡ false
    middle true b c is = λ i. is i && c
    middle false b c is = refl

group_no_import : (g : Group) → bytes_eq (group_tag g) (codes "import") ≡ false
group_no_import intersection = refl
group_no_import union = refl

-- ---- groups

no_anchor : (g : Group) (ops : List ClassExpr) → class_anchor (group_expr g ops) ≡ []
unfolding roll-ClassExpr denote.Hole.Carrier.roll
no_anchor intersection ops = refl
no_anchor union ops = refl

no_class : (g : Group) (ops : List ClassExpr) → class_iri (group_expr g ops) ≡ None
unfolding class_iri roll-ClassExpr denote.Hole.Carrier.roll
no_class intersection ops = refl
no_class union ops = refl

operands_of : (g : Group) (ops : List ClassExpr) → group_operands g (group_expr g ops) ≡ Some ops
unfolding roll-ClassExpr denote.Hole.Carrier.roll
operands_of intersection ops = ap (operands_in intersection) (out-roll-ClassExpr (ClassExpr-F.And ops))
operands_of union ops = ap (operands_in union) (out-roll-ClassExpr (ClassExpr-F.Or ops))

pub rises_test : {X : Type 0} (text : X → List ℕ) (xs : List X) → Rises text xs → rises (map text xs) ≡ true
unfolding rises
rises_test text [] is = refl
rises_test text (x ∷ []) is = refl
rises_test text (x ∷ y ∷ xs) is = and_from (is_lt (slice_cmp nat_cmp (text x) (text y))) (rises (map text (y ∷ xs))) (ap is_lt is.0.0) (rises_test text (y ∷ xs) is.1)

abbrev Tested : ClassExpr → ClassExpr × Bool
Tested e = (e, is_proper_expr e)

texts_of : (es : List ClassExpr) → map (λ (p : ClassExpr × Bool). expr_text p.0) (map Tested es) ≡ map expr_text es
texts_of [] = refl
texts_of (e ∷ es) = ap (λ xs. expr_text e ∷ xs) (texts_of es)

all_tested : (es : List ClassExpr) → ((e : ClassExpr) → In e es → is_proper_expr e ≡ true) → list_all (λ (p : ClassExpr × Bool). p.1) (map Tested es) ≡ true
all_tested [] each = refl
all_tested (e ∷ es) each = and_from (is_proper_expr e) (list_all (λ (p : ClassExpr × Bool). p.1) (map Tested es)) (each e (inl refl)) (all_tested es (λ x later. each x (inr later)))

two_tested : (es : List ClassExpr) → 2 ≤ length es → nat_le 2 (length (map Tested es)) ≡ true
two_tested [] two = absurd (omega arith)
two_tested (e ∷ []) two = absurd (omega arith)
two_tested (e ∷ f ∷ es) two = let n = length (map Tested es) in grind (arith, nat_tests)

operands_proper : (es : List ClassExpr) → 2 ≤ length es → Rises expr_text es → ((e : ClassExpr) → In e es → is_proper_expr e ≡ true) → are_proper_operands (map Tested es) ≡ true
unfolding are_proper_operands
operands_proper es two rise each =
    and_from (nat_le 2 (length (map Tested es)) && rises (map (λ (p : ClassExpr × Bool). expr_text p.0) (map Tested es))) (list_all (λ (p : ClassExpr × Bool). p.1) (map Tested es))
    (and_from (nat_le 2 (length (map Tested es))) (rises (map (λ (p : ClassExpr × Bool). expr_text p.0) (map Tested es))) (two_tested es two) (subst (λ xs. rises xs ≡ true) (sym (texts_of es)) (rises_test expr_text es rise)))
    (all_tested es each)

group_proper : (g : Group) (es : List ClassExpr) → 2 ≤ length es → Rises expr_text es → ((e : ClassExpr) → In e es → is_proper_expr e ≡ true) → is_proper_expr (group_expr g es) ≡ true
unfolding is_proper_expr proper_step roll-ClassExpr denote.Hole.Carrier.roll
group_proper intersection es two rise each = para-roll-ClassExpr Bool proper_step (ClassExpr-F.And es) ∙ operands_proper es two rise each
group_proper union es two rise each = para-roll-ClassExpr Bool proper_step (ClassExpr-F.Or es) ∙ operands_proper es two rise each

or_some_right : {X : Type 0} (o other : Option X) → IsSome other → IsSome (option_or o other)
or_some_right None other some = some
or_some_right (Some x) other some = refl

or_some_left : {X : Type 0} (o other : Option X) → IsSome o → IsSome (option_or o other)
or_some_left None other some = let h : false ≡ true = some in absurd (cc)
or_some_left (Some x) other some = refl

module _ (d : List Framed) (sound : IsSound d) where
  abbrev S : Situation
  S = situation_of d

  abbrev w : Writing
  w = writing_in (space_of d)

  abbrev declared : List Name
  declared = filter_map declared_in (owl d)

  role_same : (x : List ℕ) → (situation_of d).reading.role_iri x ≡ (situation_of d).reading.iri x
  unfolding situation_of
  role_same x = refl

  of_qualifiers : (f : Framed) → In f d → has_reserved_key f ≡ false → (s : Side) → In s (map side_of_qualifier f.clause.qualifiers) → OfQualifier s
  of_qualifiers f here plain s among =
      let q = In-from_map side_of_qualifier s f.clause.qualifiers among in
      let fits = sound.fits f here in
      record {
        q = q.0;
        fits = fits_quals (shape_at f.frame (has_tag (codes "id") f && not (is_raw f.clause.value)) f.clause.tag) f.clause.qualifiers fits.qualifiers q.0 q.1;
        plain = All-In (λ (p : Qualifier). is_reserved_key p.key ≡ false) f.clause.qualifiers q.0 (all_not_six f.clause.qualifiers plain) q.1;
        same = q.2;
      }

  free_misfit : (f : Framed) → is_untranslatable d f ≡ false → is_misfit f ≡ false
  unfolding is_untranslatable
  free_misfit f free = false_from_ne_true (is_misfit f) (λ is. both_ways (is_untranslatable d f) free (or_first (is_misfit f) _ _ _ is))

  -- a home of a declared entity among the anchors
  home_some : (name : Name) (said : Body) → In name (anchors said) → In name declared → IsSome (frame_id w name) → IsSome (home_of w declared said)
  home_some name said among known has =
      let id = some_value (frame_id w name) has in
      let home : Home = record { entity = name; id = id.0 } in
      let test = is_declared_from declared name known in
      let at : home_at w declared name ≡ Some home = λ i. where_true (test i) (option_map (λ id. let h : Home = record { entity = name; id = id } in h) (id.1 i)) in
      sorted_some (λ (h : Home). h.id) (filter_map (home_at w declared) (anchors said)) home (In-filter_map (home_at w declared) home (anchors said) name among at)

  statement_formed : (f : Framed) (a : Axiom) → In f d → is_untranslatable d f ≡ false → source.IsStated S f a → HasForm d sound a
  unfolding axiom_spelled
  statement_formed f a here free is =
      let name = is.name in
      let by = source.stated_by S.reading f.frame name.iri f.clause a is.means in
      let s = by.statement in
      let at = entity_iri d sound f.frame f.id name is.entity in
      let cov = covers_at S.reading w (agree d sound) role_same (λ x. refl) name.iri (record { id = at.0; same = at.1 }) s f.clause.value a.body by.said in
      let row = first_some-found (statement_in f.clause.tag) (statements_of f.frame) s by.row in
      let row_is : row.0.statement ≡ s = same_Some row.0.statement s (where_true_some (bytes_eq row.0.tag f.clause.tag) (Some row.0.statement) s row.2).1 in
      let frame = frame_of_entity S f.frame f.id name is.entity in
      let row_kind : anchor_kind s ≡ logical_kind f.frame = ap anchor_kind (sym row_is) ∙ kind_from_same (anchor_kind row.0.statement) (logical_kind f.frame) (passes_in (λ (r : StatementRow). same_kind (anchor_kind r.statement) (logical_kind f.frame)) (statements_of f.frame) row.0 (rows_kind f.frame) row.1) in
      let kind : anchor_kind s ≡ name.kind = row_kind ∙ sym (logical_in f.frame name.kind frame is.logical) in
      let among : In name (anchors a.body) = subst (λ k. In (name_as k name.iri) (anchors a.body)) kind cov.home in
      let home = some_value (home_of w declared a.body) (home_some name a.body among (source.entity_declared d sound f name here is.entity) (frame_id_some d sound name at)) in
      let is_home = home_is w declared a.body home.0 home.1 in
      let states = cov.each home.0.entity is_home.among in
      let home_frame : frame_kind home.0.entity.kind ≡ f.frame = ap frame_kind (states.0 ∙ kind) ∙ frame in
      let tagged = statement_tag f.frame f.clause (is_statement S.reading f.frame name.iri f.clause a is.means) in
      let plain = no_misfit f (free_misfit f free) (no_import f tagged.import) (stated_not_false S.reading name.iri s f.clause.value a.body by.said) in
      let quals : IsSome (qualifiers_of a.sides) = subst (λ ss. IsSome (qualifiers_of ss)) by.sides (sides_some (map side_of_qualifier f.clause.qualifiers) (of_qualifiers f here plain)) in
      let x = home.0.entity.iri in
      let by_row : IsSome (plain_by w x a row.0) =
      then_some (λ v. option_map (λ qualifiers. let c : Clause = record { tag = row.0.tag; value = v; qualifiers = qualifiers } in c) (qualifiers_of a.sides)) (value_plainly w x row.0.statement a.body)
      (subst (λ t. IsSome (value_plainly w x t a.body)) (sym row_is) states.1)
      (λ v. some_map (λ qualifiers. let c : Clause = record { tag = row.0.tag; value = v; qualifiers = qualifiers } in c) (qualifiers_of a.sides) quals) in
      let in_frame : IsSome (statement_spelling w f.frame x a) = subst (λ o. IsSome o) (sym (spelling_is_plain w f.frame x a)) (first_some-some (plain_by w x a) (statements_of f.frame) row.0 row.1 by_row) in
      let clause = some_value (statement_spelling w (frame_kind home.0.entity.kind) x a) (subst (λ k. IsSome (statement_spelling w k x a)) (sym home_frame) in_frame) in
      let spelled : statement_spelled w declared a ≡ Some (at_home home.0 clause.0) =
      ap (option_and_then (λ (home : Home). option_map (at_home home) (statement_spelling w (frame_kind home.entity.kind) home.entity.iri a))) home.1 ∙ ap (option_map (at_home home.0)) clause.1 in
      formed_by d sound a (at_home home.0 clause.0) (statement_body w declared a a.body (source.stated_statement S.reading f.frame name.iri f.clause a is.means) ∙ spelled) (λ _. cov.proper)
      (subst (Rises side_text) by.sides (Rises-sorted_by side_text (map side_of_qualifier f.clause.qualifiers)))

  -- ---- groups

  operand_some : (g : Group) (v : Value) (e : ClassExpr) → operand_plainly S.reading g v ≡ Some e → IsSome (operand_value w g e) × (is_proper_expr e ≡ true)
  operand_some union (value.Id id) e is = subst (λ x. IsSome (operand_value w union x) × (is_proper_expr x ≡ true)) (same_Some _ e is)
      (class_read_some S.reading w (agree d sound) role_same (λ x. refl) id, named_proper (S.reading.iri id) (clean_of S.reading w (agree d sound) role_same (λ x. refl) id))
  operand_some intersection (value.Id id) e is = subst (λ x. IsSome (operand_value w intersection x) × (is_proper_expr x ≡ true)) (same_Some _ e is)
      (or_some_left _ (restriction_words w (class_read S.reading id)) (class_read_some S.reading w (agree d sound) role_same (λ x. refl) id), named_proper (S.reading.iri id) (clean_of S.reading w (agree d sound) role_same (λ x. refl) id))
  operand_some intersection (value.Pair role id) e is = subst (λ x. IsSome (operand_value w intersection x) × (is_proper_expr x ≡ true)) (same_Some _ e is)
      (or_some_right (option_map value.Id (class_id w (restriction S.reading role id))) (restriction_words w (restriction S.reading role id)) (restriction_some S.reading w (agree d sound) role_same (λ x. refl) role id), restriction_proper S.reading w (agree d sound) role_same (λ x. refl) role id)
  operand_some _ _ e is = absurd (none-some e is)

  or_second : (a b c e : Bool) → b ≡ true → (a || b || c || e) ≡ true
  or_second true b c e is = refl
  or_second false b c e is = λ i. is i || c || e

  term_frame : (kind : FrameKind) → is_term kind ≡ true → kind ≡ Term
  term_frame Term is = refl
  term_frame Header is = let h : false ≡ true = is in absurd (cc)
  term_frame Typedef is = let h : false ≡ true = is in absurd (cc)
  term_frame Instance is = let h : false ≡ true = is in absurd (cc)

  not_broken : (f : Framed) (g : Group) → is_untranslatable d f ≡ false → group_of f ≡ Some g → is_broken S d (S.reading.iri f.id) g ≡ false
  unfolding is_untranslatable
  not_broken f g free has =
      false_from_ne_true (is_broken S d (S.reading.iri f.id) g) (λ is.
      both_ways (is_untranslatable d f) free (or_second (is_misfit f) _ _ _ (ap (λ o. option_map_or (is_broken S d (S.reading.iri f.id)) o false) has ∙ is)))

  in_group_entity : (f : Framed) (g : Group) → group_of f ≡ Some g → entity_of S f.frame f.id ≡ Some (class_entity (S.reading.iri f.id))
  in_group_entity f g has =
      let test = where_true_some (is_term f.frame && not (is_raw f.clause.value)) _ g has in
      ap (λ k. entity_of S k f.id) (term_frame f.frame (and_parts (is_term f.frame) (not (is_raw f.clause.value)) test.0).0)

  among_groups : (g : Group) → In g (intersection ∷ union ∷ [])
  among_groups intersection = inl refl
  among_groups union = inr (inl refl)

  module _ (f : Framed) (g : Group) (here : In f d) (free : is_untranslatable d f ≡ false) (has : group_of f ≡ Some g) where
    abbrev x : List ℕ
    x = S.reading.iri f.id

    abbrev members : List Framed
    members = group_in S d x g

    abbrev clauses : List Clause
    clauses = map (λ (each : Framed). each.clause) members

    abbrev read : Clause → Option ClassExpr
    read clause = operand_plainly S.reading g clause.value

    abbrev of_clause : Clause → List Side
    of_clause clause = map side_of_qualifier clause.qualifiers

    module _ (operands : List ClassExpr) (found : each_some read clauses ≡ Some operands) where
      abbrev ops : List ClassExpr
      ops = sorted_by expr_text operands

      abbrev whole : ClassExpr
      whole = group_expr g ops

      abbrev sides : List Side
      sides = sorted_sides (flat_map of_clause clauses)

      side_of : (s : Side) → In s (flat_map of_clause clauses) → OfQualifier s
      side_of s among =
          let c = In-from_flat_map of_clause s clauses among in
          let m = In-from_map (λ (each : Framed). each.clause) c.0 members c.1 in
          let test = In-from_filter (λ (one : Framed). is_term one.frame && not (is_raw one.clause.value) && bytes_eq (S.reading.iri one.id) x && has_tag (group_tag g) one) m.0 d m.1 in
          let tagged = (and_parts (is_term m.0.frame && not (is_raw m.0.clause.value) && bytes_eq (S.reading.iri m.0.id) x) (has_tag (group_tag g) m.0) test.1).1 in
          let fine = false_from_ne_true (is_misfit m.0) (λ bad. both_ways (is_broken S d x g) (not_broken f g free has) (any_from_in is_misfit members m.0 m.1 bad)) in
          let import = no_import m.0 (ap (λ t. bytes_eq t (codes "import")) (same_bytes m.0.clause.tag (group_tag g) tagged) ∙ group_no_import g) in
          let e = Rattle.text_sets.proofs.PartLemmas.each_some-items read clauses operands found m.0.clause (In-map (λ (each : Framed). each.clause) m.0 members m.1) in
          let plain = no_misfit m.0 fine import (operand_not_false S.reading g m.0.clause.value e.0 e.2) in
          of_qualifiers m.0 test.0 plain s (subst (λ (k : Clause). In s (of_clause k)) (sym m.2) c.2)

      quals : IsSome (qualifiers_of sides)
      quals = sides_some (flat_map of_clause clauses) side_of

      operand_of : (e : ClassExpr) → In e ops → IsSome (operand_value w g e) × (is_proper_expr e ≡ true)
      operand_of e among =
          let c = each_some-parts read clauses operands found e (sorted_by-only expr_text operands e among) in
          operand_some g c.0.value e c.2

      whole_proper : is_proper_expr whole ≡ true
      whole_proper = group_proper g ops (sound.groups f g operands here has found) (Rises-sorted_by expr_text operands) (λ e among. (operand_of e among).1)

      clauses_some : (qs : List Qualifier) → IsSome (plain_clauses_with w g qs whole)
      clauses_some qs =
          subst (λ o. IsSome (option_and_then (λ operands. option_map (λ values. plain_group_clauses g qs (sorted_by value_text values)) (each_some (operand_value w g) operands)) o)) (sym (operands_of g ops))
          (some_map (λ values. plain_group_clauses g qs (sorted_by value_text values)) (each_some (operand_value w g) ops) (each_some-some (operand_value w g) ops (λ e among. (operand_of e among).0)))

      pair_formed : (p q : ClassExpr) → anchors (body.Equiv p q) ≡ class_entity x ∷ [] → other_expr x p q ≡ Some whole → is_proper_body (body.Equiv p q) ≡ true → HasForm d sound (record { body = body.Equiv p q; sides = sides })
      unfolding clauses_for
      pair_formed p q are other proper =
          let a : Axiom = record { body = body.Equiv p q; sides = sides } in
          let name = class_entity x in
          let home = some_value (home_of w declared a.body) (home_some name a.body (subst (In name) (sym are) (inl refl)) (source.entity_declared d sound f name here (in_group_entity f g has)) (frame_id_some d sound name (f.id, refl))) in
          let is_home = home_is w declared a.body home.0 home.1 in
          let entity : name ≡ home.0.entity = ⊎_elim (λ same. same) (λ none. absurd none) (subst (In home.0.entity) are is_home.among) in
          let spelling : IsSome (group_spelling w x g a) =
          subst (λ o. IsSome o) (sym (group_is_spelled_plainly w x g a)) (then_some (λ qs. option_and_then (plain_clauses_with w g qs) (other_expr x p q)) (qualifiers_of sides) quals
          (λ qs. subst (λ o. IsSome (option_and_then (plain_clauses_with w g qs) o)) (sym other) (clauses_some qs))) in
          let at_home : IsSome (group_spelling w home.0.entity.iri g a) = subst (λ (n : Name). IsSome (group_spelling w n.iri g a)) entity spelling in
          let grouped : IsSome (group_spelled w declared a g) =
          subst (λ o. IsSome (option_and_then (λ (home : Home). option_map (map (framed Term home.id)) (group_spelling w home.entity.iri g a)) o)) (sym home.1) (some_map (map (framed Term home.0.id)) (group_spelling w home.0.entity.iri g a) at_home) in
          let all = some_value (clauses_for w declared a) (or_some_right (axiom_spelled w declared a) (first_some (group_spelled w declared a) (intersection ∷ union ∷ [])) (first_some-some (group_spelled w declared a) (intersection ∷ union ∷ []) g (among_groups g) grouped)) in
          record { clauses = all.0; spelled = all.1; proper = λ _. proper; rises = Rises-sorted_by side_text (flat_map of_clause clauses) }

      class_proper : is_proper_expr (class_named x) ≡ true
      class_proper = named_proper x (clean_of S.reading w (agree d sound) role_same (λ y. refl) f.id)

      is_x : is_class x (class_named x) ≡ true
      is_x = is_class_named S.reading w (agree d sound) role_same (λ y. refl) x (iri_named S.reading w (agree d sound) role_same (λ y. refl) f.id)

      whole_no_class : is_class x whole ≡ false
      whole_no_class = ap (λ o. option_map_or (bytes_eq x) o false) (no_class g ops)

      group_has : HasForm d sound (record { body = expr_pair (class_named x) whole; sides = sides })
      unfolding anchors is_proper_body is_proper_pair
      group_has =
          let c = class_named x in
          let ca = class_anchor_named x in let wa = no_anchor g ops in
          let both : (p q : ClassExpr) → is_proper_expr p ≡ true → is_proper_expr q ≡ true → in_order (expr_text p) (expr_text q) ≡ true → is_proper_body (body.Equiv p q) ≡ true =
          λ p q pp pq ordered. and_from (is_proper_expr p && is_proper_expr q) (in_order (expr_text p) (expr_text q)) (and_from (is_proper_expr p) (is_proper_expr q) pp pq) ordered in
          ⊎_elim
          (λ yes. subst (λ b. HasForm d sound (record { body = b; sides = sides })) (sym (cond-true _ (body.Equiv c whole) (body.Equiv whole c) yes))
          (pair_formed c whole (λ i. ca i ++ wa i) (cond-true _ _ _ is_x) (both c whole class_proper whole_proper yes)))
          (λ isnt. subst (λ b. HasForm d sound (record { body = b; sides = sides })) (sym (cond-false _ (body.Equiv c whole) (body.Equiv whole c) isnt))
          (pair_formed whole c (λ i. wa i ++ ca i) (cond-false _ _ _ whole_no_class ∙ (λ i. where_true (is_x i) (Some whole))) (both whole c whole_proper class_proper (order_total (expr_text c) (expr_text whole) isnt))))
          (cases_Bool (in_order (expr_text c) (expr_text whole)))

  group_formed : (f : Framed) (a : Axiom) → In f d → is_untranslatable d f ≡ false → source.IsGrouped d f a → HasForm d sound a
  group_formed f a here free is =
      let g = is.group in
      let x = S.reading.iri f.id in
      let clauses = map (λ (each : Framed). each.clause) (group_in S d x g) in
      let read = λ (clause : Clause). operand_plainly S.reading g clause.value in
      let made = option_map_some (λ operands. let one : Axiom = record {
        body = expr_pair (class_named x) (group_expr g (sorted_by expr_text operands));
        sides = sorted_sides (flat_map (λ (clause : Clause). map side_of_qualifier clause.qualifiers) clauses);
      } in one) (each_some read clauses) a (grouped_plainly S.reading x g clauses a is.means) in
      subst (HasForm d sound) made.2 (group_has f g here free is.has made.0 made.1)

  -- ---- each axiom

  pub formed : (a : Axiom) → In a (owl d) → HasForm d sound a
  formed a here =
      ⊎_elim
      (λ (by : source.IsSaidBy d a). ⊎_elim
      (λ alone. by_case by.one by.among by.free (source.said_cases S by.one a alone))
      (λ grouped. group_formed by.one a by.among by.free (source.grouped_by d by.one a grouped))
      by.says)
      (λ (new : source.IsSpaced d a). spacing_formed d sound a new)
      (source.owl_cases d a here)
    where
      by_case : (f : Framed) → In f d → is_untranslatable d f ≡ false → source.SaidCase S f a → HasForm d sound a
      by_case f among free (inl is) = declaration_formed d sound f a among is
      by_case f among free (inr (inl is)) = note_formed d sound f a among free is
      by_case f among free (inr (inr (inl is))) = header_note_formed d sound f a among free is
      by_case f among free (inr (inr (inr is))) = statement_formed f a among free is
