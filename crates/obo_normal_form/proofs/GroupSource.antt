-- An axiom of a document that a group would stand for comes from that group.
use Rattle.std.proofs.Common.{◌≡◌, ◌⊎◌, ℕ, true, false, List, [], ◌∷◌, map, Option, None, Some, inl, inr, ⊎_elim, refl, sym, ap, subst, ◌∙◌, arith}
use Rattle.std.specs.List.{flat_map}
use Rattle.std.specs.Option.{option_and_then, option_map}
use Rattle.std.proofs.lemmas.Bool.{cases_Bool, cond-false, cond-true}
use Rattle.std.proofs.lemmas.List.{append_cancel_right}
use Rattle.std.proofs.lemmas.Option.{none-some, same_Some}
use Rattle.obo_clause.specs.declared.clause.Clause.{Clause}
use Rattle.obo_clause.specs.declared.clause.Value.{Value}
use Rattle.obo_clause.specs.declared.clause.Value.TheVariants as value
use Rattle.clause_printer.specs.Printing.{value_text}
use Rattle.text_sets.specs.Sets.{In}
use Rattle.owl_axioms.specs.Proper.{in_order}
use Rattle.owl_axioms.specs.Text.{expr_text, iri_text, phrase, text_step}
use Rattle.owl_axioms.specs.declared.annotation.Side.{Side}
use Rattle.owl_axioms.specs.declared.body.Axiom.{Axiom}
use Rattle.owl_axioms.specs.declared.body.Body.{Body}
use Rattle.owl_axioms.specs.declared.body.Body.TheVariants as body
use Rattle.owl_axioms.specs.declared.expr.ClassExpr.{ClassExpr}
use Rattle.owl_axioms.specs.declared.expr.ClassExpr.TheFolds.{fold-roll-ClassExpr}
use Rattle.owl_axioms.specs.declared.expr.ClassExpr.TheOpen.{ClassExpr-F}
use Rattle.owl_axioms.specs.declared.expr.ClassExpr.TheViews.{roll-ClassExpr}
use Rattle.text_sets.specs.Parts.{each_some}
use Rattle.text_sets.specs.Sorted.{sorted_by}
use Rattle.text_sets.proofs.PartLemmas.{option_and_then_some, option_map_some}
use Rattle.obo_frames.specs.Framed.{Framed}
use Rattle.obo_mapping.specs.Axioms.{Situation}
use Rattle.obo_notes.specs.Context.{Reading, Writing}
use Rattle.obo_mapping.specs.Documents.{group_in, group_of, is_untranslatable, owl, situation_of}
use Rattle.obo_notes.specs.Keys.{side_of_qualifier}
use Rattle.obo_notes.specs.Notes.{qualifiers_of, sorted_sides}
use Rattle.obo_statements.proofs.PlainMeaning.{grouped_plainly}
use Rattle.owl_axioms.specs.Classes.{class_named}
use Rattle.obo_statements.specs.Classes.{is_class}
use Rattle.obo_statements.specs.Values.{Character, Statement, asymmetric, functional, inverse_functional, pair_of, reflexive, stated_plainly, symmetric, transitive}
use Rattle.obo_statements.specs.Groups.{Group, expr_pair, group_expr, group_meaning, group_operands, group_spelling, intersection, operand_plainly, operand_value, other_expr, union}
use Rattle.obo_statements.specs.inner.PlainGroups.{plain_clauses_with, plain_group_clauses, plain_group_in_body}
use Rattle.obo_statements.proofs.PlainGroups.{group_is_spelled_plainly}
use Rattle.obo_statements.proofs.GroupLaws.{class_named-text, group_is_no_class, whole_of}
use Rattle.obo_notes.proofs.Guards.{where_true_some}
use Rattle.obo_normal_form.proofs.OwlCases.{IsSaidBy, IsSpaced, SaidCase, grouped_by, owl_cases, said_cases, stated_by}
use Rattle.obo_statements.proofs.StatementLaws.{is_class-back}

-- ---- names of classes

tail_of : List ℕ → List ℕ
tail_of [] = []
tail_of (x ∷ xs) = xs

same_iri_text : (x y : List ℕ) → iri_text x ≡ iri_text y → x ≡ y
unfolding iri_text tail_of
same_iri_text x y same = ap tail_of (append_cancel_right (60 ∷ x) (60 ∷ y) (62 ∷ []) same)

pub same_class_iri : (x y : List ℕ) → class_named x ≡ class_named y → x ≡ y
same_class_iri x y same = same_iri_text x y (sym (class_named-text x) ∙ ap expr_text same ∙ class_named-text y)

seventh : List ℕ → ℕ
seventh (a ∷ b ∷ c ∷ d ∷ e ∷ f ∷ g ∷ bs) = g
seventh _ = 0

abbrev sign_of : Group → ℕ
sign_of intersection = 73
sign_of union = 85

sign_is : (g : Group) (operands : List ClassExpr) → seventh (expr_text (group_expr g operands)) ≡ sign_of g
unfolding seventh expr_text text_step phrase roll-ClassExpr denote.Hole.Carrier.roll
sign_is intersection operands = ap seventh (fold-roll-ClassExpr (List ℕ) text_step (ClassExpr-F.And operands))
sign_is union operands = ap seventh (fold-roll-ClassExpr (List ℕ) text_step (ClassExpr-F.Or operands))

same_sign : (g h : Group) → sign_of g ≡ sign_of h → g ≡ h
same_sign intersection intersection is = refl
same_sign union union is = refl
same_sign intersection union is = let k : 73 ≡ 85 = is in absurd (omega (arith, k))
same_sign union intersection is = let k : 85 ≡ 73 = is in absurd (omega (arith, k))

same_group : (g h : Group) (some others : List ClassExpr) → group_expr g some ≡ group_expr h others → g ≡ h
same_group g h some others same = same_sign g h (sym (sign_is g some) ∙ ap (λ e. seventh (expr_text e)) same ∙ sign_is h others)

-- ---- a pair with a group

record HasGroup (w : Writing) (x : List ℕ) (g : Group) (c d : ClassExpr) : Type 0 where
  whole : ClassExpr
  operands : List ClassExpr
  other : other_expr x c d ≡ Some whole
  parts : group_operands g whole ≡ Some operands

has_group : (w : Writing) (x : List ℕ) (g : Group) (sides : List Side) (c d : ClassExpr) (cs : List Clause) → plain_group_in_body w x g sides (body.Equiv c d) ≡ Some cs → HasGroup w x g c d
has_group w x g sides c d cs is =
    let qs = option_and_then_some (λ qualifiers. option_and_then (plain_clauses_with w g qualifiers) (other_expr x c d)) (qualifiers_of sides) cs is in
    let whole = option_and_then_some (plain_clauses_with w g qs.0) (other_expr x c d) cs qs.2 in
    let operands = option_and_then_some (λ operands. option_map (λ values. plain_group_clauses g qs.0 (sorted_by value_text values)) (each_some (operand_value w g) operands)) (group_operands g whole.0) cs whole.2 in
    record { whole = whole.0; operands = operands.0; other = whole.1; parts = operands.1 }

-- which of the two it is
record IsOther (x : List ℕ) (whole named : ClassExpr) : Type 0 where
  class : class_named x ≡ named

other_cases : (x : List ℕ) (c d whole : ClassExpr) → other_expr x c d ≡ Some whole → ((whole ≡ d) × (class_named x ≡ c)) ⊎ ((whole ≡ c) × (class_named x ≡ d))
other_cases x c d whole is =
    ⊎_elim
    (λ first. inl (sym (same_Some d whole (sym (cond-true _ _ _ first) ∙ is)), is_class-back x c first))
    (λ later.
    let found = where_true_some (is_class x d) (Some c) whole (sym (cond-false _ _ _ later) ∙ is) in
    inr (sym (same_Some c whole found.1), is_class-back x d found.0))
    (cases_Bool (is_class x c))

no_group_of_class : (g : Group) (whole : ClassExpr) (operands : List ClassExpr) (i : List ℕ) → group_operands g whole ≡ Some operands → whole ≡ class_named i → ⊥
no_group_of_class g whole operands i parts is = group_is_no_class g operands i (ap expr_text (whole_of g whole operands parts ∙ is))

classes_no_group : (w : Writing) (x : List ℕ) (g : Group) (sides : List Side) (i j : List ℕ) (cs : List Clause) → plain_group_in_body w x g sides (body.Equiv (class_named i) (class_named j)) ≡ Some cs → ⊥
classes_no_group w x g sides i j cs is =
    let has = has_group w x g sides (class_named i) (class_named j) cs is in
    ⊎_elim (λ one. no_group_of_class g has.whole has.operands j has.parts one.0) (λ other. no_group_of_class g has.whole has.operands i has.parts other.0)
    (other_cases x (class_named i) (class_named j) has.whole has.other)

-- the group of a pair of a class and a group
pair_group : (x i : List ℕ) (g h : Group) (whole : ClassExpr) (operands others : List ClassExpr) (c d : ClassExpr) → other_expr x c d ≡ Some whole → group_operands g whole ≡ Some operands
    → ((c ≡ class_named i) × (d ≡ group_expr h others)) ⊎ ((c ≡ group_expr h others) × (d ≡ class_named i)) → (i ≡ x) × (h ≡ g)
pair_group x i g h whole operands others c d other parts which =
    let cases = other_cases x c d whole other in
    let from : whole ≡ group_expr h others → class_named x ≡ class_named i → (i ≡ x) × (h ≡ g) =
    λ is named. (sym (same_class_iri x i named), sym (same_group g h operands others (whole_of g whole operands parts ∙ is))) in
    ⊎_elim
    (λ one. ⊎_elim
    (λ first. from (first.0 ∙ one.1) (first.1 ∙ one.0))
    (λ second. absurd (no_group_of_class g whole operands i parts (second.0 ∙ one.0)))
    cases)
    (λ two. ⊎_elim
    (λ first. absurd (no_group_of_class g whole operands i parts (first.0 ∙ two.1)))
    (λ second. from (second.0 ∙ two.0) (second.1 ∙ two.1))
    cases)
    which

-- ---- statements have no group

abbrev NoGroup : Body → Type 0
NoGroup said = (w : Writing) (x : List ℕ) (g : Group) (sides : List Side) (cs : List Clause) → plain_group_in_body w x g sides said ≡ Some cs → ⊥

abbrev NoneHasGroup : Option Body → Type 0
NoneHasGroup None = Unit {0}
NoneHasGroup (Some said) = NoGroup said

pair_has_none : (make : List ℕ → List ℕ → Body) (x y : List ℕ) → ((a b : List ℕ) → NoGroup (make a b)) → NoGroup (pair_of make x y)
pair_has_none make x y each =
    ⊎_elim (λ yes. subst NoGroup (sym (cond-true _ (make x y) (make y x) yes)) (each x y)) (λ isnt. subst NoGroup (sym (cond-false _ (make x y) (make y x) isnt)) (each y x)) (cases_Bool (in_order (iri_text x) (iri_text y)))

stated_none : (reading : Reading) (x : List ℕ) (statement : Statement) (v : Value) → NoneHasGroup (stated_plainly reading x statement v)
unfolding stated_plainly
stated_none reading x Statement.below_class (value.Id id) = λ w y g sides cs is. none-some cs is
stated_none reading x Statement.restricted (value.Pair role id) = λ w y g sides cs is. none-some cs is
stated_none reading x Statement.same_class (value.Id id) = pair_has_none Rattle.obo_statements.specs.Values.same_classes x (reading.iri id) (λ a b w y g sides cs is. classes_no_group w y g sides a b cs is)
stated_none reading x Statement.disjoint_class (value.Id id) = pair_has_none Rattle.obo_statements.specs.Values.disjoint_classes x (reading.iri id) (λ a b w y g sides cs is. none-some cs is)
stated_none reading x Statement.below_role (value.Id id) = λ w y g sides cs is. none-some cs is
stated_none reading x Statement.same_role (value.Id id) = pair_has_none body.EquivRoles x (reading.role_iri id) (λ a b w y g sides cs is. none-some cs is)
stated_none reading x Statement.disjoint_role (value.Id id) = pair_has_none body.DisjointRoles x (reading.role_iri id) (λ a b w y g sides cs is. none-some cs is)
stated_none reading x Statement.inverse_role (value.Id id) = pair_has_none body.Inverse x (reading.role_iri id) (λ a b w y g sides cs is. none-some cs is)
stated_none reading x (Statement.has_character transitive) (value.Bool true) = λ w y g sides cs is. none-some cs is
stated_none reading x (Statement.has_character reflexive) (value.Bool true) = λ w y g sides cs is. none-some cs is
stated_none reading x (Statement.has_character symmetric) (value.Bool true) = λ w y g sides cs is. none-some cs is
stated_none reading x (Statement.has_character asymmetric) (value.Bool true) = λ w y g sides cs is. none-some cs is
stated_none reading x (Statement.has_character functional) (value.Bool true) = λ w y g sides cs is. none-some cs is
stated_none reading x (Statement.has_character inverse_functional) (value.Bool true) = λ w y g sides cs is. none-some cs is
stated_none reading x Statement.has_domain (value.Id id) = λ w y g sides cs is. none-some cs is
stated_none reading x Statement.has_range (value.Id id) = λ w y g sides cs is. none-some cs is
stated_none reading x Statement.over (value.Id id) = λ w y g sides cs is. none-some cs is
stated_none reading x Statement.chain (value.Pair first second) = λ w y g sides cs is. none-some cs is
stated_none reading x Statement.member (value.Id id) = λ w y g sides cs is. none-some cs is
stated_none reading x Statement.related (value.Pair role id) = λ w y g sides cs is. none-some cs is
stated_none reading x _ _ = tt

-- ---- the group of a group

pub record MeantBy (i : List ℕ) (h : Group) (a : Axiom) : Type 0 where
  pub operands : List ClassExpr
  pub body_is : expr_pair (class_named i) (group_expr h operands) ≡ a.body

pub meant_by : (reading : Reading) (i : List ℕ) (h : Group) (clauses : List Clause) (a : Axiom) → group_meaning reading i h clauses ≡ Some a → MeantBy i h a
meant_by reading i h clauses a is =
    let made = option_map_some (λ operands. let one : Axiom = record {
      body = expr_pair (class_named i) (group_expr h (sorted_by expr_text operands));
      sides = sorted_sides (flat_map (λ (clause : Clause). map side_of_qualifier clause.qualifiers) clauses);
    } in one) (each_some (λ (clause : Clause). operand_plainly reading h clause.value) clauses) a (grouped_plainly reading i h clauses a is) in
    record { operands = sorted_by expr_text made.0; body_is = ap (λ (b : Axiom). b.body) made.2 }

meant_group : (w : Writing) (x i : List ℕ) (g h : Group) (a : Axiom) (cs : List Clause) → MeantBy i h a → group_spelling w x g a ≡ Some cs → (i ≡ x) × (h ≡ g)
meant_group w x i g h a cs by is =
    let c = class_named i in
    let whole = group_expr h by.operands in
    let at = λ (said : Body) (same : said ≡ a.body). ap (plain_group_in_body w x g a.sides) same ∙ sym (group_is_spelled_plainly w x g a) ∙ is in
    ⊎_elim
    (λ yes.
    let has = has_group w x g a.sides c whole cs (at (body.Equiv c whole) (sym (cond-true _ _ _ yes) ∙ by.body_is)) in
    pair_group x i g h has.whole has.operands by.operands c whole has.other has.parts (inl (refl, refl)))
    (λ isnt.
    let has = has_group w x g a.sides whole c cs (at (body.Equiv whole c) (sym (cond-false _ _ _ isnt) ∙ by.body_is)) in
    pair_group x i g h has.whole has.operands by.operands whole c has.other has.parts (inr (refl, refl)))
    (cases_Bool (in_order (expr_text c) (expr_text whole)))

-- ---- in a document

module _ (d : List Framed) (w : Writing) where
  abbrev S : Situation
  S = situation_of d

  pub record IsFromGroup (x : List ℕ) (g : Group) (a : Axiom) : Type 0 where
    pub one : Framed
    pub among : In one d
    pub free : is_untranslatable d one ≡ false
    pub has : group_of one ≡ Some g
    pub iri : S.reading.iri one.id ≡ x
    pub means : group_meaning S.reading x g (map (λ (each : Framed). each.clause) (group_in S d x g)) ≡ Some a

  no_case : (x : List ℕ) (g : Group) (a : Axiom) (cs : List Clause) (f : Framed) → SaidCase S f a → plain_group_in_body w x g a.sides a.body ≡ Some cs → ⊥
  no_case x g a cs f (inl declared) is = none-some cs (ap (λ (b : Axiom). plain_group_in_body w x g b.sides b.body) declared.says ∙ is)
  no_case x g a cs f (inr (inl noted)) is = none-some cs (ap (λ (b : Axiom). plain_group_in_body w x g b.sides b.body) noted.says ∙ is)
  no_case x g a cs f (inr (inr (inl noted))) is = none-some cs (ap (λ (b : Axiom). plain_group_in_body w x g b.sides b.body) noted.says ∙ is)
  no_case x g a cs f (inr (inr (inr one))) is =
      let by = stated_by S.reading f.frame one.name.iri f.clause a one.means in
      subst NoneHasGroup by.said (stated_none S.reading one.name.iri by.statement f.clause.value) w x g a.sides cs is

  pub group_source : (x : List ℕ) (g : Group) (a : Axiom) (cs : List Clause) → In a (owl d) → group_spelling w x g a ≡ Some cs → IsFromGroup x g a
  group_source x g a cs here is =
      let plainly = sym (group_is_spelled_plainly w x g a) ∙ is in
      ⊎_elim
      (λ (by : IsSaidBy d a). ⊎_elim
      (λ alone. absurd (no_case x g a cs by.one (said_cases S by.one a alone) plainly))
      (λ grouped.
      let one = grouped_by d by.one a grouped in
      let i = S.reading.iri by.one.id in
      let same = meant_group w x i g one.group a cs (meant_by S.reading i one.group (map (λ (each : Framed). each.clause) (group_in S d i one.group)) a one.means) is in
      record {
        one = by.one;
        among = by.among;
        free = by.free;
        has = one.has ∙ ap Some same.1;
        iri = same.0;
        means = subst (λ y. group_meaning S.reading y g (map (λ (each : Framed). each.clause) (group_in S d y g)) ≡ Some a) same.0
            (subst (λ h. group_meaning S.reading i h (map (λ (each : Framed). each.clause) (group_in S d i h)) ≡ Some a) same.1 one.means);
      })
      by.says)
      (λ (new : IsSpaced d a). absurd (none-some cs (ap (λ (b : Axiom). plain_group_in_body w x g b.sides b.body) new.same ∙ plainly)))
      (owl_cases d a here)

  -- two axioms of one group are one
  pub group_once : (x : List ℕ) (g : Group) (a b : Axiom) (some others : List Clause) → In a (owl d) → In b (owl d) → group_spelling w x g a ≡ Some some → group_spelling w x g b ≡ Some others → a ≡ b
  group_once x g a b some others here there one other =
      same_Some a b (sym (group_source x g a some here one).means ∙ (group_source x g b others there other).means)
