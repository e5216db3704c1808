-- The normal form of a document without short groups has none.
use Rattle.std.proofs.Common.{◌≡◌, ◌≤◌, ◌⊎◌, ℕ, suc, Bool, true, false, not, ◌&&◌, ◌||◌, List, [], ◌∷◌, ◌++◌, codes, length, map, Option, Some, inl, inr, ⊎_elim, refl, sym, ap, subst, ◌∙◌, arith}
use Rattle.std.specs.BTreeSet.{insert_key}
use Rattle.std.specs.List.{list_all}
use Rattle.std.specs.Option.{IsSome}
use Rattle.std.specs.Ordering.{match_ordering}
use Rattle.std.specs.Prelude.{nat_le}
use Rattle.std.specs.Str.{bytes_eq}
use Rattle.std.specs.declared.cmp.Ordering.TheVariants.{Equal, Greater, Less}
use Rattle.std.proofs.lemmas.Bool.{and_parts, both_ways, cases_Bool, cond-false, cond-true, or_cases}
use Rattle.std.proofs.lemmas.Option.{none-some, same_Some}
use Rattle.obo_tags.specs.declared.kind.FrameKind.TheVariants.{Term}
use Rattle.obo_clause.specs.declared.clause.Clause.{Clause}
use Rattle.obo_clause.specs.declared.clause.Value.{Value}
use Rattle.obo_clause.specs.declared.clause.Value.TheVariants as value
use Rattle.text_sets.proofs.SortedLemmas.{same_sorted}
use Rattle.text_sets.proofs.SetLemmas.{In-append, In-filter, In-from_filter, In-from_map, In-map}
use Rattle.text_sets.specs.Sets.{In, SameMembers}
use Rattle.owl_axioms.specs.Proper.{are_proper_operands, in_order, is_proper_body, is_proper_expr, proper_step, rises}
use Rattle.owl_axioms.specs.Text.{expr_text}
use Rattle.owl_axioms.specs.declared.body.Axiom.{Axiom}
use Rattle.owl_axioms.specs.declared.body.Body.TheVariants as body
use Rattle.owl_axioms.specs.declared.expr.ClassExpr.{ClassExpr}
use Rattle.owl_axioms.specs.declared.expr.ClassExpr.TheFolds.{para-roll-ClassExpr}
use Rattle.owl_axioms.specs.declared.expr.ClassExpr.TheOpen.{ClassExpr-F}
use Rattle.owl_axioms.specs.declared.expr.ClassExpr.TheViews.{roll-ClassExpr}
use Rattle.text_sets.specs.Parts.{each_some}
use Rattle.text_sets.specs.Sorted.{by_text, sorted_by, sorted_on}
use Rattle.text_sets.proofs.PartLemmas.{each_some-items, each_some-parts, each_some-some, option_map_some}
use Rattle.obo_frames.specs.Framed.{Framed, framed}
use Rattle.obo_mapping.specs.Axioms.{Situation}
use Rattle.obo_notes.specs.Context.{Agree, Reading, Writing, writing_in}
use Rattle.obo_normal_form.proofs.SettleLaws as settle
use Rattle.obo_notes.proofs.Guards.{same_bytes, where_true_some}
use Rattle.obo_mapping.specs.Documents.{as_kept, is_import, settled, settled_value, space_of}
use Rattle.obo_statements.specs.Restrictions.{restriction}
use Rattle.obo_statements.specs.Groups.{group_spelling}
use Rattle.obo_mapping.specs.Documents.{group_in, group_of, group_said, group_with, has_tag, header_with, is_header, is_raw, is_term, is_untranslatable, kept, names_in, norm, owl, situation_of, spelled}
use Rattle.obo_normal_form.specs.NormLaws.{NormIsSound}
use Rattle.obo_mapping.specs.Sound.{IsFramed, IsSound}
use Rattle.owl_axioms.specs.Classes.{class_named}
use Rattle.obo_statements.specs.Groups.{Group, expr_pair, group_expr, group_meaning, group_tag, intersection, operand_plainly, union}
use Rattle.obo_statements.proofs.PlainMeaning.{grouped_plainly}
use Rattle.obo_mapping.proofs.DocumentLaw as law
use Rattle.obo_normal_form.proofs.FormedAxioms.{formed}
use Rattle.obo_normal_form.proofs.NormLaw as norms
use Rattle.obo_normal_form.proofs.NormSound.{norm_is_framed}
use Rattle.obo_normal_form.proofs.OwlCases as source
use Rattle.obo_notes.proofs.PartCovers.{some_value}
use Rattle.obo_mapping.proofs.SinglesLaw.{IsStatement}
use Rattle.obo_mapping.proofs.SpelledLaw.{alone_no_group, group_says, tag_of_group}
use Rattle.obo_statements.proofs.GroupsBack.{pair_in_order}
use Rattle.obo_mapping.proofs.SpelledShapes as shapes

-- ---- the length of a sorted list goes by the texts

insert_texts : {X : Type 0} (text : X → List ℕ) (ys : List X) (x : X) → map text (insert_key (by_text text) ys x) ≡ insert_key (by_text (λ (t : List ℕ). t)) (map text ys) (text x)
insert_texts text [] x = refl
insert_texts text (y ∷ ys) x =
    elim (by_text text x y) as (λ o. map text (match_ordering o (x ∷ y ∷ ys) (y ∷ ys) (y ∷ insert_key (by_text text) ys x))
    ≡ match_ordering o (text x ∷ text y ∷ map text ys) (text y ∷ map text ys) (text y ∷ insert_key (by_text (λ (t : List ℕ). t)) (map text ys) (text x))) [
      | Less ↦ refl
      | Equal ↦ refl
      | Greater ↦ ap (λ ts. text y ∷ ts) (insert_texts text ys x)
    ]

sorted_texts : {X : Type 0} (text : X → List ℕ) (xs : List X) → map text (sorted_by text xs) ≡ sorted_by (λ (t : List ℕ). t) (map text xs)
unfolding sorted_on
sorted_texts text [] = refl
sorted_texts text (x ∷ xs) = insert_texts text (sorted_by text xs) x ∙ ap (λ ts. insert_key (by_text (λ (t : List ℕ). t)) ts (text x)) (sorted_texts text xs)

length_map : {X Y : Type 0} (f : X → Y) (xs : List X) → length (map f xs) ≡ length xs
length_map f [] = refl
length_map f (x ∷ xs) = ap suc (length_map f xs)

pub same_length : {X : Type 0} (text : X → List ℕ) (xs ys : List X) → SameMembers xs ys → length (sorted_by text xs) ≡ length (sorted_by text ys)
same_length text xs ys same =
    let texts : SameMembers (map text xs) (map text ys) = λ t. (
      (λ here. let x = In-from_map text t xs here in subst (λ u. In u (map text ys)) x.2 (In-map text x.0 ys ((same x.0).0 x.1))),
      (λ here. let x = In-from_map text t ys here in subst (λ u. In u (map text xs)) x.2 (In-map text x.0 xs ((same x.0).1 x.1))),
    ) in
    sym (length_map text (sorted_by text xs)) ∙ ap length (sorted_texts text xs ∙ same_sorted (map text xs) (map text ys) texts ∙ sym (sorted_texts text ys)) ∙ length_map text (sorted_by text ys)

-- ---- a proper group has two operands

abbrev Tested : ClassExpr → ClassExpr × Bool
Tested e = (e, is_proper_expr e)

two_operands : (es : List ClassExpr) → are_proper_operands (map Tested es) ≡ true → 2 ≤ length es
unfolding are_proper_operands
two_operands es is =
    let outer = and_parts (nat_le 2 (length (map Tested es)) && rises (map (λ (p : ClassExpr × Bool). expr_text p.0) (map Tested es))) (list_all (λ (p : ClassExpr × Bool). p.1) (map Tested es)) is in
    let inner = and_parts (nat_le 2 (length (map Tested es))) (rises (map (λ (p : ClassExpr × Bool). expr_text p.0) (map Tested es))) outer.0 in
    two es inner.0
  where
    two : (es : List ClassExpr) → nat_le 2 (length (map Tested es)) ≡ true → 2 ≤ length es
    two [] is = let h : false ≡ true = is in absurd (cc)
    two (e ∷ []) is = let h : false ≡ true = is in absurd (cc)
    two (e ∷ f ∷ es) is = omega arith

group_two : (g : Group) (es : List ClassExpr) → is_proper_expr (group_expr g es) ≡ true → 2 ≤ length es
unfolding is_proper_expr proper_step roll-ClassExpr denote.Hole.Carrier.roll
group_two intersection es is = two_operands es (sym (para-roll-ClassExpr Bool proper_step (ClassExpr-F.And es)) ∙ is)
group_two union es is = two_operands es (sym (para-roll-ClassExpr Bool proper_step (ClassExpr-F.Or es)) ∙ is)

pair_two : (c : ClassExpr) (g : Group) (es : List ClassExpr) → is_proper_body (expr_pair c (group_expr g es)) ≡ true → 2 ≤ length es
pair_two c g es is =
    let whole = group_expr g es in
    ⊎_elim
    (λ yes. group_two g es (pair_in_order c whole (ap is_proper_body (sym (cond-true _ (body.Equiv c whole) (body.Equiv whole c) yes)) ∙ is)).2)
    (λ isnt. group_two g es (pair_in_order whole c (ap is_proper_body (sym (cond-false _ (body.Equiv c whole) (body.Equiv whole c) isnt)) ∙ is)).1)
    (cases_Bool (in_order (expr_text c) (expr_text whole)))

pair_states : (c e : ClassExpr) → IsStatement (expr_pair c e)
pair_states c e = ⊎_elim (λ yes. subst IsStatement (sym (cond-true _ (body.Equiv c e) (body.Equiv e c) yes)) tt) (λ isnt. subst IsStatement (sym (cond-false _ (body.Equiv c e) (body.Equiv e c) isnt)) tt) (cases_Bool (in_order (expr_text c) (expr_text e)))

pub meaning_two : (reading : Reading) (x : List ℕ) (g : Group) (clauses : List Clause) (a : Axiom) (operands : List ClassExpr) → (IsStatement a.body → is_proper_body a.body ≡ true)
    → group_meaning reading x g clauses ≡ Some a → each_some (λ (clause : Clause). operand_plainly reading g clause.value) clauses ≡ Some operands → 2 ≤ length (sorted_by expr_text operands)
meaning_two reading x g clauses a operands proper is found =
    let made = option_map_some _ (each_some (λ (clause : Clause). operand_plainly reading g clause.value) clauses) a (grouped_plainly reading x g clauses a is) in
    let same : made.0 ≡ operands = same_Some made.0 operands (sym made.1 ∙ found) in
    let body_is : expr_pair (class_named x) (group_expr g (sorted_by expr_text made.0)) ≡ a.body = ap (λ (b : Axiom). b.body) made.2 in
    subst (λ ops. 2 ≤ length (sorted_by expr_text ops)) same
    (pair_two (class_named x) g (sorted_by expr_text made.0) (ap is_proper_body body_is ∙ proper (subst IsStatement body_is (pair_states (class_named x) (group_expr g (sorted_by expr_text made.0))))))

-- a settled operand is the operand
module _ (reading : Reading) (writing : Writing) (agree : Agree reading writing) (role_same : (x : List ℕ) → reading.role_iri x ≡ reading.iri x) where
  id_reads : (id : List ℕ) → reading.iri (settled reading.iri writing.id id) ≡ reading.iri id
  id_reads id = settle.settled_reads reading.iri writing.id (settle.ids_give reading writing agree) id

  role_reads : (id : List ℕ) → reading.role_iri (settled reading.role_iri writing.role_id id) ≡ reading.role_iri id
  role_reads id = settle.settled_reads reading.role_iri writing.role_id (settle.roles_give reading writing agree) id

  role_as_id : (id : List ℕ) → reading.iri (settled reading.role_iri writing.role_id id) ≡ reading.iri id
  role_as_id id = sym (role_same (settled reading.role_iri writing.role_id id)) ∙ role_reads id ∙ role_same id

  operand_settled : (role literal : Bool) (g : Group) (v : Value) → operand_plainly reading g (settled_value reading writing role literal v) ≡ operand_plainly reading g v
  unfolding settled_value restriction
  operand_settled role true g (value.Id word) = refl
  operand_settled true false g (value.Id word) = ap (λ i. Some (class_named i)) (role_as_id word)
  operand_settled false false g (value.Id word) = ap (λ i. Some (class_named i)) (id_reads word)
  operand_settled true literal intersection (value.Pair first second) = let a = role_reads first in let b = role_as_id second in λ i. Some (Rattle.owl_axioms.specs.declared.expr.ClassExpr.TheVariants.Some (a i) (class_named (b i)))
  operand_settled false literal intersection (value.Pair first second) = let a = role_reads first in let b = id_reads second in λ i. Some (Rattle.owl_axioms.specs.declared.expr.ClassExpr.TheVariants.Some (a i) (class_named (b i)))
  operand_settled role literal union (value.Pair first second) = refl
  operand_settled role literal intersection _ = refl
  operand_settled role literal union _ = refl

module _ (d : List Framed) (sound : IsSound d) where
  abbrev names : List (List ℕ)
  names = names_in d

  abbrev K : List Framed
  K = kept d

  abbrev O : List Axiom
  O = owl d

  abbrev D : List Framed
  D = law.D names K O

  abbrev all : (a : Axiom) → In a (owl d) → Rattle.obo_normal_form.proofs.FormedNotes.HasForm d sound a
  all = formed d sound

  abbrev spellable : law.IsSpellable names K O
  spellable = norms.spellable d sound (formed d sound)

  abbrev nameless : law.IsNameless names K O
  nameless = norms.nameless d sound (formed d sound)

  -- ---- spelled groups

  abbrev clauses_at : Framed → Group → List Clause
  clauses_at f g = map (λ (each : Framed). each.clause) (group_in (situation_of D) D ((situation_of D).reading.iri f.id) g)

  abbrev read : Group → Clause → Option ClassExpr
  read g clause = operand_plainly (situation_of D).reading g clause.value

  spelled_two : (f : Framed) (g : Group) (operands : List ClassExpr) → In f (spelled (law.w names K O) O) → group_of f ≡ Some g → each_some (read g) (clauses_at f g) ≡ Some operands → 2 ≤ length (sorted_by expr_text operands)
  unfolding Rattle.obo_mapping.specs.Axioms.axiom_spelled
  spelled_two f g operands here has found =
      let S = situation_of D in
      let w = law.w names K O in
      let a = law.agrees names K O spellable nameless in
      let k = law.knows names K O spellable nameless in
      let isin = law.spelled_in names K O spellable nameless (norms.is_silent d sound (formed d sound)) in
      let of = Rattle.obo_mapping.proofs.SpelledLaw.is_of D w O a k isin f here in
      let form = isin.formed of.one of.among in
      ⊎_elim
      (λ alone. absurd (none-some g (sym (alone_no_group D w O a k isin of.one f (shapes.alone_shape S.reading w a (law.declared names K O) of.one.body of.one.sides form.clauses f alone form.proper form.rises of.has)) ∙ has)))
      (λ grouped.
      let at = grouped.1 in
      let c = In-from_map (framed Term at.id) f at.clauses (subst (In f) (sym at.same) of.has) in
      let says : group_said S D f ≡ Some of.one = subst (λ (h : Framed). group_said S D h ≡ Some of.one) c.2 (group_says D w O a k isin of.one of.among grouped.0 at c.0 c.1) in
      let by = source.grouped_by D f of.one says in
      let same : by.group ≡ g = same_Some by.group g (sym by.has ∙ has) in
      meaning_two S.reading (S.reading.iri f.id) g (clauses_at f g) of.one operands form.proper
      (subst (λ h. group_meaning S.reading (S.reading.iri f.id) h (map (λ (each : Framed). each.clause) (group_in S D (S.reading.iri f.id) h)) ≡ Some of.one) same by.means) found)
      (shapes.form_is S.reading w a (law.declared names K O) of.one form.clauses form.spelled)

  -- ---- kept groups

  abbrev S : Situation
  S = situation_of d

  abbrev w : Writing
  w = writing_in (space_of d)

  abbrev tested : Situation → List ℕ → Group → Framed → Bool
  tested situation x g one = is_term one.frame && not (is_raw one.clause.value) && bytes_eq (situation.reading.iri one.id) x && has_tag (group_tag g) one

  record IsMember (situation : Situation) (x : List ℕ) (g : Group) (one : Framed) : Type 0 where
    has : group_of one ≡ Some g
    iri : situation.reading.iri one.id ≡ x
    term : is_term one.frame ≡ true
    tag : one.clause.tag ≡ group_tag g

  member : (situation : Situation) (x : List ℕ) (g : Group) (one : Framed) → tested situation x g one ≡ true → IsMember situation x g one
  member situation x g one test =
      let a = and_parts (is_term one.frame && not (is_raw one.clause.value) && bytes_eq (situation.reading.iri one.id) x) (has_tag (group_tag g) one) test in
      let b = and_parts (is_term one.frame && not (is_raw one.clause.value)) (bytes_eq (situation.reading.iri one.id) x) a.0 in
      let t = same_bytes one.clause.tag (group_tag g) a.1 in
      record {
        has = (λ i. Rattle.obo_notes.specs.Context.where_true (b.0 i) (group_with (t i))) ∙ Rattle.obo_mapping.proofs.SpelledLaw.group_with_tag g;
        iri = same_bytes (situation.reading.iri one.id) x b.1;
        term = (and_parts (is_term one.frame) (not (is_raw one.clause.value)) b.0).0;
        tag = t;
      }

  tested_like : (m f : Framed) (g : Group) → tested (situation_of D) ((situation_of D).reading.iri (as_kept S w f).id) g (as_kept S w m) ≡ tested S (S.reading.iri f.id) g m
  tested_like m f g =
      let r = norms.raw d sound (formed d sound) m in let t = norms.tag d sound (formed d sound) m in
      let a = norms.iri_like d sound (formed d sound) m in let b = norms.iri_like d sound (formed d sound) f in
      λ i. is_term m.frame && not (r i) && bytes_eq (a i) (b i) && bytes_eq (t i) (group_tag g)

  read_like : (m : Framed) (g : Group) → read g (as_kept S w m).clause ≡ operand_plainly S.reading g m.clause.value
  read_like m g =
      let known = Rattle.obo_mapping.specs.Axioms.is_metadata S (S.reading.iri m.id) in
      ap (λ (r : Reading). operand_plainly r g (as_kept S w m).clause.value) (norms.same_reading d sound (formed d sound))
      ∙ settle.kept_by S.reading w (norms.agree d sound (formed d sound)) (operand_plainly S.reading g) known m (λ role literal. operand_settled S.reading w (norms.agree d sound (formed d sound)) (norms.role_same d sound (formed d sound)) role literal g m.clause.value)

  -- no spelled clause is in a group that is kept
  not_spelled : (one : Framed) (g : Group) → In (as_kept S w one) K → group_of (as_kept S w one) ≡ Some g → (y : Framed) → In y (spelled (law.w names K O) O) → group_of y ≡ Some g
      → (situation_of D).reading.iri y.id ≡ (situation_of D).reading.iri (as_kept S w one).id → ⊥
  unfolding Rattle.obo_mapping.specs.Axioms.axiom_spelled
  not_spelled one g kept_one has y spelled_y y_has y_iri =
      let T = situation_of D in
      let v = law.w names K O in
      let a = law.agrees names K O spellable nameless in
      let k = law.knows names K O spellable nameless in
      let isin = law.spelled_in names K O spellable nameless (norms.is_silent d sound (formed d sound)) in
      let of = Rattle.obo_mapping.proofs.SpelledLaw.is_of D v O a k isin y spelled_y in
      let form = isin.formed of.one of.among in
      ⊎_elim
      (λ alone. none-some g (sym (alone_no_group D v O a k isin of.one y (shapes.alone_shape T.reading v a (law.declared names K O) of.one.body of.one.sides form.clauses y alone form.proper form.rises of.has)) ∙ y_has))
      (λ grouped.
      let at = grouped.1 in
      let c = In-from_map (framed Term at.id) y at.clauses (subst (In y) (sym at.same) of.has) in
      let off = shapes.group_clause v at.iri grouped.0 of.one at.clauses at.spelled c.0 c.1 in
      let same_group : grouped.0 ≡ g = same_Some grouped.0 g (sym (Rattle.obo_mapping.proofs.SpelledLaw.group_is at.id c.0 grouped.0 off) ∙ ap group_of c.2 ∙ y_has) in
      let same_iri : at.iri ≡ T.reading.iri (as_kept S w one).id = sym (a.ids at.iri at.id at.has).1 ∙ ap (λ (h : Framed). T.reading.iri h.id) c.2 ∙ y_iri in
      let spelled_at : group_spelling v (T.reading.iri (as_kept S w one).id) g of.one ≡ Some at.clauses = (let p = sym same_iri in let q = sym same_group in λ i. group_spelling v (p i) (q i) of.one) ∙ at.spelled in
      norms.apart d sound (formed d sound) (as_kept S w one) g of.one at.clauses kept_one of.among has spelled_at)
      (shapes.form_is T.reading v a (law.declared names K O) of.one form.clauses form.spelled)

  kept_two : (one : Framed) (g : Group) (operands : List ClassExpr) → In one d → is_untranslatable d one ≡ true → In (as_kept S w one) K → group_of (as_kept S w one) ≡ Some g
      → each_some (read g) (clauses_at (as_kept S w one) g) ≡ Some operands → 2 ≤ length (sorted_by expr_text operands)
  kept_two one g operands here untranslatable kept_one has found =
      let f = as_kept S w one in
      let x = S.reading.iri one.id in
      let x' = (situation_of D).reading.iri f.id in
      let one_has : group_of one ≡ Some g = sym (norms.group_like d sound (formed d sound) one) ∙ has in
      let old = group_in S d x g in
      let new = group_in (situation_of D) D x' g in
      let read0 = λ (clause : Clause). operand_plainly S.reading g clause.value in
      let moved : (m : Framed) → In m old → In (as_kept S w m) new = λ m among.
      let found_m = In-from_filter (tested S x g) m d among in
      let is = member S x g m found_m.1 in
      let bad : is_untranslatable d m ≡ true = ⊎_elim (λ yes. yes)
      (λ free. absurd (both_ways (is_untranslatable d one) (norms.whole_group d sound (formed d sound) one m x g here one_has refl is.has is.iri free) untranslatable)) (cases_Bool (is_untranslatable d m)) in
      let no_meta = ap (λ t. bytes_eq t (codes "is_metadata_tag")) is.tag ∙ norms.group_no_metadata g in
      let elsewhere = norms.elsewhere_not_header (is_raw m.clause.value) (has_tag (codes "is_metadata_tag") m) (is_header m) (has_tag (codes "format-version") m) (has_tag (codes "ontology") m) no_meta (norms.term_no_header m.frame m.id m.clause is.term) in
      let there = norms.kept_here d sound (formed d sound) (as_kept S w m) (norms.in_kept d sound (formed d sound) m found_m.0 (or_right (is_import m) (is_untranslatable d m) bad) elsewhere) in
      In-filter (tested (situation_of D) x' g) (as_kept S w m) D there (tested_like m one g ∙ found_m.1) in
      let back : (y : Framed) → In y new → (m : Framed) × In m old × (as_kept S w m ≡ y) = λ y among.
      let found_y = In-from_filter (tested (situation_of D) x' g) y D among in
      let is = member (situation_of D) x' g y found_y.1 in
      ⊎_elim
      (λ head. absurd (no_header_term y (law.from_header names K O spellable nameless y head) is.term))
      (λ more. ⊎_elim
      (λ kept_y.
      let k = norms.is_kept d sound (formed d sound) y kept_y in
      (k.one, In-filter (tested S x g) k.one d k.among (sym (tested_like k.one one g) ∙ ap (tested (situation_of D) x' g) k.same ∙ found_y.1), k.same))
      (λ spelled_y. absurd (not_spelled one g kept_one has y spelled_y is.has is.iri))
      (In-append y K (spelled (law.w names K O) O) more))
      (In-append y (header_with names) (K ++ spelled (law.w names K O) O) found_y.0) in
      let all0 = some_value (each_some read0 (map (λ (each : Framed). each.clause) old)) (each_some-some read0 (map (λ (each : Framed). each.clause) old) (λ c among.
      let m = In-from_map (λ (each : Framed). each.clause) c old among in
      let e = each_some-items (read g) (clauses_at f g) operands found (as_kept S w m.0).clause (In-map (λ (each : Framed). each.clause) (as_kept S w m.0) new (moved m.0 m.1)) in
      subst IsSome (sym (ap read0 (sym m.2) ∙ sym (read_like m.0 g) ∙ e.2)) refl)) in
      let two = sound.groups one g all0.0 here one_has all0.1 in
      let same : SameMembers all0.0 operands = λ e. (
        (λ among.
            let c = each_some-parts read0 (map (λ (each : Framed). each.clause) old) all0.0 all0.1 e among in
            let m = In-from_map (λ (each : Framed). each.clause) c.0 old c.1 in
            let there = each_some-items (read g) (clauses_at f g) operands found (as_kept S w m.0).clause (In-map (λ (each : Framed). each.clause) (as_kept S w m.0) new (moved m.0 m.1)) in
            subst (λ z. In z operands) (same_Some there.0 e (sym there.2 ∙ read_like m.0 g ∙ ap read0 m.2 ∙ c.2)) there.1),
        (λ among.
            let c = each_some-parts (read g) (clauses_at f g) operands found e among in
            let y = In-from_map (λ (each : Framed). each.clause) c.0 new c.1 in
            let m = back y.0 y.1 in
            let there = each_some-items read0 (map (λ (each : Framed). each.clause) old) all0.0 all0.1 m.0.clause (In-map (λ (each : Framed). each.clause) m.0 old m.1) in
            subst (λ z. In z all0.0) (same_Some there.0 e (sym there.2 ∙ sym (read_like m.0 g) ∙ ap (λ (h : Framed). read g h.clause) m.2 ∙ ap (read g) y.2 ∙ c.2)) there.1),
      ) in
      subst (λ n. 2 ≤ n) (same_length expr_text all0.0 operands same) two
    where
      or_right : (a b : Bool) → b ≡ true → (a || b) ≡ true
      or_right true b is = refl
      or_right false b is = is

      no_header_term : (y : Framed) → (y ≡ law.format_clause) ⊎ ((name : List ℕ) × In name names × (law.name_clause name ≡ y)) → is_term y.frame ≡ true → ⊥
      no_header_term y (inl format) term = let h : false ≡ true = sym (ap (λ (g : Framed). is_term g.frame) format) ∙ term in absurd (cc)
      no_header_term y (inr name) term = let h : false ≡ true = ap (λ (g : Framed). is_term g.frame) name.2 ∙ term in absurd (cc)

  -- ---- all groups

  no_header_group : (y : Framed) (g : Group) → (y ≡ law.format_clause) ⊎ ((name : List ℕ) × In name names × (law.name_clause name ≡ y)) → group_of y ≡ Some g → ⊥
  no_header_group y g (inl format) has = none-some g (sym (ap group_of format) ∙ has)
  no_header_group y g (inr name) has = none-some g (ap group_of name.2 ∙ has)

  group_untranslatable : (one : Framed) (g : Group) → group_of one ≡ Some g → (is_import one || is_untranslatable d one) ≡ true → is_untranslatable d one ≡ true
  group_untranslatable one g has keeps =
      let test = where_true_some (is_term one.frame && not (is_raw one.clause.value)) (group_with one.clause.tag) g has in
      ⊎_elim
      (λ import.
      let p = and_parts (is_header one && has_tag (codes "import") one) (not (is_raw one.clause.value)) import in
      absurd (both_ways (is_header one) (norms.term_no_header one.frame one.id one.clause (and_parts (is_term one.frame) (not (is_raw one.clause.value)) test.0).0) (and_parts (is_header one) (has_tag (codes "import") one) p.0).0))
      (λ is. is)
      (or_cases (is_import one) (is_untranslatable d one) keeps)

  all_two : (f : Framed) (g : Group) (operands : List ClassExpr) → In f D → group_of f ≡ Some g → each_some (read g) (clauses_at f g) ≡ Some operands → 2 ≤ length (sorted_by expr_text operands)
  all_two f g operands here has found =
      ⊎_elim
      (λ head. absurd (no_header_group f g (law.from_header names K O spellable nameless f head) has))
      (λ more. ⊎_elim
      (λ kept_one.
      let k = norms.is_kept d sound (formed d sound) f kept_one in
      let at = as_kept S w k.one in
      let at_has : group_of at ≡ Some g = ap group_of k.same ∙ has in
      let old_has : group_of k.one ≡ Some g = sym (norms.group_like d sound (formed d sound) k.one) ∙ at_has in
      kept_two k.one g operands k.among (group_untranslatable k.one g old_has k.keeps) (subst (λ h. In h K) (sym k.same) kept_one) at_has (ap (λ (h : Framed). each_some (read g) (clauses_at h g)) k.same ∙ found))
      (λ spelled_one. spelled_two f g operands spelled_one has found)
      (In-append f K (spelled (law.w names K O) O) more))
      (In-append f (header_with names) (K ++ spelled (law.w names K O) O) here)

  sound_norm : IsSound (norm d)
  sound_norm =
      let is = norms.norm_is d sound (formed d sound) in
      let framed_is : IsFramed D = subst IsFramed is (norm_is_framed d sound) in
      subst IsSound (sym is) (record { fits = framed_is.fits; ids = framed_is.ids; header = framed_is.header; groups = λ f g operands here has found. all_two f g operands here has found })

pub norm_is_sound : NormIsSound
norm_is_sound d sound = sound_norm d sound
