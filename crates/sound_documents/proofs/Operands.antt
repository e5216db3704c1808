-- The operands of groups: as documents count them, and as expressions.
use Rattle.std.proofs.Common.{◌≡◌, ◌≤◌, ℕ, Bool, true, false, List, [], ◌∷◌, length, Some, inl, inr, refl, sym, ap, subst, ◌∙◌, arith}
use Rattle.std.specs.Option.{IsSome, option_map_or}
use Rattle.std.specs.Str.{bytes_eq}
use Rattle.std.proofs.lemmas.Bool.{and_from, and_parts}
use Rattle.std.proofs.lemmas.Option.{none-some, same_Some}
use Rattle.rel_io.specs.Texts.{is_clean_iri}
use Rattle.iri_map.specs.Id.{iri_of}
use Rattle.iri_map.proofs.CandidateLemmas.{bytes_eq-refl}
use Rattle.obo_tags.specs.declared.kind.ValueShape.{ValueShape}
use Rattle.obo_tags.specs.declared.kind.ValueShape.TheVariants as shapes
use Rattle.obo_clause.specs.Fits.{FitsShape}
use Rattle.obo_clause.specs.declared.clause.Value.{Value}
use Rattle.obo_clause.specs.declared.clause.Value.TheVariants as value
use Rattle.owl_axioms.specs.Classes.{class_iri, class_named}
use Rattle.owl_axioms.specs.Proper.{is_proper_expr}
use Rattle.owl_axioms.specs.Text.{expr_text}
use Rattle.owl_axioms.specs.declared.expr.ClassExpr.{ClassExpr}
use Rattle.owl_axioms.specs.declared.expr.ClassExpr.TheOpen.{ClassExpr-F}
use Rattle.owl_axioms.specs.declared.expr.ClassExpr.TheVariants as expr
use Rattle.owl_axioms.specs.declared.expr.ClassExpr.TheViews.{out-ClassExpr, out-roll-ClassExpr, roll-ClassExpr}
use Rattle.owl_axioms.proofs.NamedClasses.{class_iri-named}
use Rattle.owl_axioms.proofs.TellingTexts.{expr_told}
use Rattle.text_sets.specs.Sets.{AreTold, In}
use Rattle.text_sets.specs.Sorted.{Rises, sorted_by}
use Rattle.text_sets.proofs.SortedLemmas.{Rises-sorted_by, sorted_by-each, sorted_by-only, text_not_below_itself}
use Rattle.obo_frames.specs.Groups.{expression_of, same_expression}
use Rattle.obo_notes.specs.Context.{Reading, reading_in}
use Rattle.obo_notes.proofs.ContextLemmas.{Agree-in}
use Rattle.obo_notes.proofs.Guards.{same_bytes}
use Rattle.obo_notes.proofs.ProperSides.{clean_url}
use Rattle.obo_statements.specs.Groups.{Group, intersection, operand_plainly, union}
use Rattle.obo_statements.specs.Restrictions.{restriction}
use Rattle.obo_mapping.specs.Documents.{is_raw}
use Rattle.obo_normal_form.proofs.FormedStatements.{named_proper, some_proper}
use Rattle.obo_normal_form.proofs.GroupSource.{same_class_iri}

-- ---- what is counted of a value

-- the values stand for one expression, as documents count them
abbrev pub same_values : List ℕ → Value → Value → Bool
same_values space v w = option_map_or (λ x. option_map_or (same_expression x) (expression_of space w) false) (expression_of space v) false

pub values_counted : (space : List ℕ) (v w : Value) (x y : _) → expression_of space v ≡ Some x → expression_of space w ≡ Some y → same_values space v w ≡ same_expression x y
values_counted space v w x y one other = λ i. option_map_or (λ x. option_map_or (same_expression x) (other i) false) (one i) false

pub counted_not_raw : (space : List ℕ) (v : Value) (x : _) → expression_of space v ≡ Some x → is_raw v ≡ false
counted_not_raw space (value.Raw text) x is = absurd (none-some x is)
counted_not_raw space _ x is = refl

pub read_counted : (space : List ℕ) (g : Group) (v : Value) (e : ClassExpr) → operand_plainly (reading_in space) g v ≡ Some e → IsSome (expression_of space v)
read_counted space g (value.Id id) e is = refl
read_counted space g (value.Pair role id) e is = refl
read_counted space _ _ e is = absurd (none-some e is)

-- the shape of the values of a group
abbrev pub shape_in : Group → ValueShape
shape_in intersection = shapes.IdOrPair
shape_in union = shapes.Id

pub some_operand : (reading : Reading) (g : Group) (v : Value) → FitsShape (shape_in g) v → IsSome (operand_plainly reading g v)
some_operand reading intersection (value.Id id) fits = refl
some_operand reading intersection (value.Pair role id) fits = refl
some_operand reading union (value.Id id) fits = refl
some_operand reading intersection _ fits = absurd fits
some_operand reading union _ fits = absurd fits

-- ---- different expressions are counted as different

role_at : ClassExpr-F ClassExpr → List ℕ
role_at (ClassExpr-F.Some role part) = role
role_at _ = []

filler_at : ClassExpr-F ClassExpr → ClassExpr
filler_at (ClassExpr-F.Some role part) = part
filler_at _ = expr.Thing

same_parts : (r s : List ℕ) (c d : ClassExpr) → expr.Some r c ≡ expr.Some s d → (r ≡ s) × (c ≡ d)
unfolding roll-ClassExpr denote.Hole.Carrier.roll role_at filler_at
same_parts r s c d same =
    let out : ClassExpr-F.Some r c ≡ ClassExpr-F.Some s d = sym (out-roll-ClassExpr (ClassExpr-F.Some r c)) ∙ ap out-ClassExpr same ∙ out-roll-ClassExpr (ClassExpr-F.Some s d) in
    (ap role_at out, ap filler_at out)

no_class : (iri role : List ℕ) (part : ClassExpr) → class_named iri ≡ expr.Some role part → ⊥
unfolding class_iri
no_class iri role part same = none-some iri (sym (ap class_iri same) ∙ class_iri-named iri)

equal_bytes : (a b : List ℕ) → a ≡ b → bytes_eq a b ≡ true
equal_bytes a b same = subst (λ t. bytes_eq a t ≡ true) same (bytes_eq-refl a)

pub same_counted : (space : List ℕ) (g : Group) (v w : Value) (e f : ClassExpr) → operand_plainly (reading_in space) g v ≡ Some e → operand_plainly (reading_in space) g w ≡ Some f → e ≡ f → same_values space v w ≡ true
unfolding restriction
same_counted space g (value.Id a) (value.Id b) e f one other same =
    equal_bytes (iri_of a space) (iri_of b space) (same_class_iri (iri_of a space) (iri_of b space) (same_Some _ e one ∙ same ∙ sym (same_Some _ f other)))
same_counted space intersection (value.Id a) (value.Pair role b) e f one other same =
    absurd (no_class (iri_of a space) (iri_of role space) (class_named (iri_of b space)) (same_Some _ e one ∙ same ∙ sym (same_Some _ f other)))
same_counted space intersection (value.Pair role a) (value.Id b) e f one other same =
    absurd (no_class (iri_of b space) (iri_of role space) (class_named (iri_of a space)) (same_Some _ f other ∙ sym same ∙ sym (same_Some _ e one)))
same_counted space intersection (value.Pair role a) (value.Pair r b) e f one other same =
    let whole = same_Some _ e one ∙ same ∙ sym (same_Some _ f other) in
    let parts = same_parts (iri_of role space) (iri_of r space) (class_named (iri_of a space)) (class_named (iri_of b space)) whole in
    and_from (bytes_eq (iri_of role space) (iri_of r space)) (bytes_eq (iri_of a space) (iri_of b space))
    (equal_bytes (iri_of role space) (iri_of r space) parts.0) (equal_bytes (iri_of a space) (iri_of b space) (same_class_iri (iri_of a space) (iri_of b space) parts.1))
same_counted space union (value.Pair role a) w e f one other same = absurd (none-some e one)
same_counted space _ (value.Id a) _ e f one other same = absurd (none-some f other)
same_counted space _ (value.Pair role a) _ e f one other same = absurd (none-some f other)
same_counted space _ _ _ e f one other same = absurd (none-some e one)

pub counted_same : (space : List ℕ) (g : Group) (v w : Value) (e f : ClassExpr) → operand_plainly (reading_in space) g v ≡ Some e → operand_plainly (reading_in space) g w ≡ Some f → same_values space v w ≡ true → e ≡ f
unfolding restriction
counted_same space g (value.Id a) (value.Id b) e f one other is = sym (same_Some _ e one) ∙ ap class_named (same_bytes (iri_of a space) (iri_of b space) is) ∙ same_Some _ f other
counted_same space intersection (value.Id a) (value.Pair role b) e f one other is = let h : false ≡ true = is in absurd (cc)
counted_same space intersection (value.Pair role a) (value.Id b) e f one other is = let h : false ≡ true = is in absurd (cc)
counted_same space intersection (value.Pair role a) (value.Pair r b) e f one other is =
    let parts = and_parts (bytes_eq (iri_of role space) (iri_of r space)) (bytes_eq (iri_of a space) (iri_of b space)) is in
    let first = same_bytes (iri_of role space) (iri_of r space) parts.0 in
    let second = same_bytes (iri_of a space) (iri_of b space) parts.1 in
    sym (same_Some _ e one) ∙ (λ i. expr.Some (first i) (class_named (second i))) ∙ same_Some _ f other
counted_same space union (value.Pair role a) w e f one other is = absurd (none-some e one)
counted_same space _ (value.Id a) _ e f one other is = absurd (none-some f other)
counted_same space _ (value.Pair role a) _ e f one other is = absurd (none-some f other)
counted_same space _ _ _ e f one other is = absurd (none-some e one)

-- ---- their texts tell them

clean_in : (space id : List ℕ) → is_clean_iri (iri_of id space) ≡ true
clean_in space id = subst (λ i. is_clean_iri i ≡ true) ((Agree-in space).clean id).1 (clean_url (iri_of id space))

proper : (space : List ℕ) (g : Group) (v : Value) (e : ClassExpr) → operand_plainly (reading_in space) g v ≡ Some e → is_proper_expr e ≡ true
unfolding restriction
proper space g (value.Id id) e is = subst (λ x. is_proper_expr x ≡ true) (same_Some _ e is) (named_proper (iri_of id space) (clean_in space id))
proper space intersection (value.Pair role id) e is =
    subst (λ x. is_proper_expr x ≡ true) (same_Some _ e is) (some_proper (iri_of role space) (class_named (iri_of id space)) (clean_in space role) (named_proper (iri_of id space) (clean_in space id)))
proper space _ _ e is = absurd (none-some e is)

-- each of the expressions is what some value stands for
abbrev pub AreRead : List ℕ → Group → List ClassExpr → Type 0
AreRead space g es = (e : ClassExpr) → In e es → (v : Value) × (operand_plainly (reading_in space) g v ≡ Some e)

pub read_told : (space : List ℕ) (g : Group) (es : List ClassExpr) → AreRead space g es → AreTold expr_text es
read_told space g es read x y here there same =
    let one = read x here in let other = read y there in expr_told x y (proper space g one.0 x one.1) (proper space g other.0 y other.1) same

-- ---- two at least

two_in : (es : List ClassExpr) (a b : ClassExpr) → In a es → In b es → (a ≡ b → ⊥) → 2 ≤ length es
two_in [] a b here there apart = absurd here
two_in (e ∷ []) a b (inl one) (inl other) apart = absurd (apart (sym one ∙ other))
two_in (e ∷ []) a b (inr later) there apart = absurd later
two_in (e ∷ []) a b (inl one) (inr later) apart = absurd later
two_in (e ∷ f ∷ es) a b here there apart = omega arith

pub two_read : (space : List ℕ) (g : Group) (es : List ClassExpr) (a b : ClassExpr) → AreRead space g es → In a es → In b es → (a ≡ b → ⊥) → 2 ≤ length (sorted_by expr_text es)
two_read space g es a b read here there apart =
    let told = read_told space g es read in
    two_in (sorted_by expr_text es) a b (sorted_by-each expr_text es told a here) (sorted_by-each expr_text es told b there) apart

pub record HasTwo (es : List ClassExpr) : Type 0 where
  pub one : ClassExpr
  pub other : ClassExpr
  pub here : In one es
  pub there : In other es
  pub apart : one ≡ other → ⊥

first_two : (es : List ClassExpr) → Rises expr_text es → 2 ≤ length es → HasTwo es
first_two [] rises two = absurd (omega (arith, two))
first_two (e ∷ []) rises two = absurd (omega (arith, two))
first_two (e ∷ f ∷ es) rises two = record { one = e; other = f; here = inl refl; there = inr (inl refl); apart = λ same. text_not_below_itself expr_text e f same rises.0.0 }

pub has_two : (es : List ClassExpr) → 2 ≤ length (sorted_by expr_text es) → HasTwo es
has_two es two =
    let found = first_two (sorted_by expr_text es) (Rises-sorted_by expr_text es) two in
    record { one = found.one; other = found.other; here = sorted_by-only expr_text es found.one found.here; there = sorted_by-only expr_text es found.other found.there; apart = found.apart }
