-- Classes and roles of one letter are proper.
use Rattle.std.proofs.Common.{◌≡◌, ℕ, ◌<◌, ◌≤◌, ◌==◌, Bool, true, false, not, ◌&&◌, ◌||◌, List, [], ◌∷◌, nat_eq, nat_lt, refl, sym, ap, ◌∙◌, arith}
use Rattle.std.specs.Cmp.Lexicographic.{pointwise}
use Rattle.std.proofs.lemmas.Bool.{eqb-true, lt-ltb}
use Rattle.fact_rows.proofs.Members.{by_bool}
use Rattle.rel_io.specs.Texts.{is_clean_iri}
use Rattle.owl_axioms.proofs.Layers.{proper_of_class, proper_of_some}
use Rattle.owl_axioms.specs.Made.{is_proper_unordered}
use Rattle.owl_axioms.specs.Names.{name_of}
use Rattle.owl_axioms.specs.Proper.{is_class_iri, is_proper_body, is_proper_expr, is_proper_name}
use Rattle.owl_axioms.specs.Vocabulary.{owl_nothing, owl_thing}
use Rattle.owl_axioms.specs.declared.expr.ClassExpr.{ClassExpr}
use Rattle.owl_axioms.specs.declared.body.Body.TheVariants as body
use Rattle.owl_axioms.specs.declared.expr.ClassExpr.TheVariants as expr
use Rattle.owl_axioms.specs.declared.name.Kind.{Kind}

other : (l k : ℕ) → k < l → (l == k) ≡ false
other l k h = by_bool (l == k)
    (λ (t : (l == k) ≡ true). let e : l ≡ k = eqb-true l k t in absurd (omega (arith, h, e)))
    (λ (f : (l == k) ≡ false). f)

pub letter_clean : (l : ℕ) → 97 ≤ l → l ≤ 122 → is_clean_iri (l ∷ []) ≡ true
unfolding is_clean_iri
letter_clean l low high =
    let above : nat_lt 32 l ≡ true = lt-ltb 32 l (omega (arith, low)) in
    let one : (l == 34) ≡ false = other l 34 (omega (arith, low)) in
    let two : (l == 60) ≡ false = other l 60 (omega (arith, low)) in
    let three : (l == 62) ≡ false = other l 62 (omega (arith, low)) in
    λ i. (above i && not (one i || two i || three i)) && true

none_and : (b : Bool) → (b && false) ≡ false
none_and true = refl
none_and false = refl

class_letter : (l : ℕ) → 97 ≤ l → l ≤ 122 → is_class_iri (l ∷ []) ≡ true
unfolding is_class_iri owl_thing owl_nothing
class_letter l low high =
    let clean = letter_clean l low high in
    let one : pointwise nat_eq (l ∷ []) owl_thing ≡ false = none_and (nat_eq l 104) in
    let two : pointwise nat_eq (l ∷ []) owl_nothing ≡ false = none_and (nat_eq l 104) in
    λ i. clean i && not (one i || two i)

pub letter_class : (l : ℕ) → 97 ≤ l → l ≤ 122 → is_proper_expr (expr.Class (l ∷ [])) ≡ true
letter_class l low high = proper_of_class (l ∷ []) ∙ class_letter l low high

both_true : (a b : Bool) → a ≡ true → b ≡ true → (a && b) ≡ true
both_true a b p q = λ i. p i && q i

pub some_proper : (r : List ℕ) (e : ClassExpr) → is_clean_iri r ≡ true → is_proper_expr e ≡ true → is_proper_expr (expr.Some r e) ≡ true
some_proper r e p q = proper_of_some r e ∙ both_true (is_clean_iri r) (is_proper_expr e) p q

-- ---- axioms

pub sub_proper : (c d : ClassExpr) → is_proper_expr c ≡ true → is_proper_expr d ≡ true → is_proper_unordered (body.Sub c d) ≡ true
unfolding is_proper_unordered is_proper_body
sub_proper c d p q = both_true (is_proper_expr c) (is_proper_expr d) p q

pub equiv_proper : (c d : ClassExpr) → is_proper_expr c ≡ true → is_proper_expr d ≡ true → is_proper_unordered (body.Equiv c d) ≡ true
unfolding is_proper_unordered is_proper_body
equiv_proper c d p q = both_true (is_proper_expr c) (is_proper_expr d) p q

pub disjoint_proper : (c d : ClassExpr) → is_proper_expr c ≡ true → is_proper_expr d ≡ true → is_proper_unordered (body.Disjoint c d) ≡ true
unfolding is_proper_unordered is_proper_body
disjoint_proper c d p q = both_true (is_proper_expr c) (is_proper_expr d) p q

pub domain_proper : (r : List ℕ) (c : ClassExpr) → is_clean_iri r ≡ true → is_proper_expr c ≡ true → is_proper_unordered (body.Domain r c) ≡ true
unfolding is_proper_unordered is_proper_body
domain_proper r c p q = both_true (is_clean_iri r) (is_proper_expr c) p q

pub range_proper : (r : List ℕ) (c : ClassExpr) → is_clean_iri r ≡ true → is_proper_expr c ≡ true → is_proper_unordered (body.Range r c) ≡ true
unfolding is_proper_unordered is_proper_body
range_proper r c p q = both_true (is_clean_iri r) (is_proper_expr c) p q

pub transitive_proper : (r : List ℕ) → is_clean_iri r ≡ true → is_proper_unordered (body.Transitive r) ≡ true
unfolding is_proper_unordered is_proper_body
transitive_proper r p = p

pub role_proper : (r s : List ℕ) → is_clean_iri r ≡ true → is_clean_iri s ≡ true → is_proper_unordered (body.SubRole r s) ≡ true
unfolding is_proper_unordered is_proper_body
role_proper r s p q = both_true (is_clean_iri r) (is_clean_iri s) p q

pub name_proper : (k : Kind) (a : List ℕ) → is_clean_iri a ≡ true → is_proper_unordered (body.Declaration (name_of k a)) ≡ true
unfolding is_proper_unordered is_proper_body is_proper_name
name_proper k a p = p
