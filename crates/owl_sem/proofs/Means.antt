-- Class expressions and axioms mean what they mean in the standard.
use Rattle.std.proofs.Common.{◌≡◌, ℕ, ◌<◌, ◌≤◌, ◌==◌, Bool, true, false, not, ◌&&◌, List, map, nat_le, nat_lt, refl, sym, ap, ◌∙◌, true≢false, arith}
use Rattle.std.specs.List.{list_all, list_any}
use Rattle.std.proofs.lemmas.Bool.Decides.{nat_tests}
use Rattle.owl_axioms.specs.declared.expr.ClassExpr.{ClassExpr}
use Rattle.owl_axioms.specs.declared.expr.ClassExpr.TheOpen.{ClassExpr-F}
use Rattle.owl_axioms.specs.declared.expr.ClassExpr.TheVariants as expr
use Rattle.owl_axioms.proofs.Tests.{all_three, both}
use Rattle.owl_sem.specs.Interp.{Interp, in_class, in_role, member, member_step, number_of, reached}
use Rattle.owl_sem.specs.Laws.{AxiomsAre, FillersAre, NumbersAre, ThingAndNothing, TwoComplements}
use Rattle.owl_sem.specs.Models.{Satisfies}
use Rattle.owl_sem.proofs.Counts.{from_none, from_some, none_of, some_of}
use Rattle.owl_sem.proofs.Depends.{member_layer}

-- ---- the members of each constructor

pub of_thing : (i : Interp) → member i expr.Thing ≡ (λ e. true)
unfolding member_step
of_thing i = ap (member i) (sym expr.rolls-Thing) ∙ member_layer i ClassExpr-F.Thing

pub of_nothing : (i : Interp) → member i expr.Nothing ≡ (λ e. false)
unfolding member_step
of_nothing i = ap (member i) (sym expr.rolls-Nothing) ∙ member_layer i ClassExpr-F.Nothing

pub of_class : (i : Interp) (a : List ℕ) → member i (expr.Class a) ≡ in_class i a
unfolding member_step
of_class i a = ap (member i) (sym (expr.rolls-Class a)) ∙ member_layer i (ClassExpr-F.Class a)

pub of_and : (i : Interp) (cs : List ClassExpr) → member i (expr.And cs) ≡ (λ e. list_all (λ c. c e) (map (member i) cs))
unfolding member_step
of_and i cs = ap (member i) (sym (expr.rolls-And cs)) ∙ member_layer i (ClassExpr-F.And cs)

pub of_or : (i : Interp) (cs : List ClassExpr) → member i (expr.Or cs) ≡ (λ e. list_any (λ c. c e) (map (member i) cs))
unfolding member_step
of_or i cs = ap (member i) (sym (expr.rolls-Or cs)) ∙ member_layer i (ClassExpr-F.Or cs)

pub of_not : (i : Interp) (c : ClassExpr) → member i (expr.Not c) ≡ (λ e. not (member i c e))
unfolding member_step
of_not i c = ap (member i) (sym (expr.rolls-Not c)) ∙ member_layer i (ClassExpr-F.Not c)

pub of_some : (i : Interp) (r : List ℕ) (c : ClassExpr) → member i (expr.Some r c) ≡ (λ e. nat_le 1 (reached i r (member i c) e))
unfolding member_step
of_some i r c = ap (member i) (sym (expr.rolls-Some r c)) ∙ member_layer i (ClassExpr-F.Some r c)

pub of_all : (i : Interp) (r : List ℕ) (c : ClassExpr) → member i (expr.All r c) ≡ (λ e. reached i r (λ f. not (member i c f)) e == 0)
unfolding member_step
of_all i r c = ap (member i) (sym (expr.rolls-All r c)) ∙ member_layer i (ClassExpr-F.All r c)

pub of_min : (i : Interp) (n : ℕ) (r : List ℕ) (c : ClassExpr) → member i (expr.Min n r c) ≡ (λ e. nat_le n (reached i r (member i c) e))
unfolding member_step
of_min i n r c = ap (member i) (sym (expr.rolls-Min n r c)) ∙ member_layer i (ClassExpr-F.Min n r c)

pub of_max : (i : Interp) (n : ℕ) (r : List ℕ) (c : ClassExpr) → member i (expr.Max n r c) ≡ (λ e. nat_le (reached i r (member i c) e) n)
unfolding member_step
of_max i n r c = ap (member i) (sym (expr.rolls-Max n r c)) ∙ member_layer i (ClassExpr-F.Max n r c)

pub of_exact : (i : Interp) (n : ℕ) (r : List ℕ) (c : ClassExpr) → member i (expr.Exact n r c) ≡ (λ e. reached i r (member i c) e == n)
unfolding member_step
of_exact i n r c = ap (member i) (sym (expr.rolls-Exact n r c)) ∙ member_layer i (ClassExpr-F.Exact n r c)

-- one element of such a set
at : {p q : ℕ → Bool} → p ≡ q → (e : ℕ) → p e ≡ q e
at h e = λ k. h k e

-- ---- tests of numbers

none_or_one : (n : ℕ) → (n == 0) ≡ not (nat_le 1 n)
none_or_one n = grind (arith, nat_tests)

at_most_none : (n : ℕ) → nat_le n 0 ≡ not (nat_le 1 n)
at_most_none n = grind (arith, nat_tests)

least_and_most : (n k : ℕ) → (n == k) ≡ (nat_le k n && nat_le n k)
least_and_most n k = grind (arith, nat_tests)

one_counted : (n : ℕ) → nat_le 1 n ≡ true → 1 ≤ n
one_counted n h = grind (arith, nat_tests)

counted_one : (n : ℕ) → 1 ≤ n → nat_le 1 n ≡ true
counted_one n h = grind (arith, nat_tests)

none_counted : (n : ℕ) → (n == 0) ≡ true → n ≡ 0
none_counted n h = grind (arith, nat_tests)

least_none : (n : ℕ) → nat_le 0 n ≡ true
least_none n = grind (arith, nat_tests)

-- ---- pairs are of elements

below_from : (e n : ℕ) → nat_lt e n ≡ true → e < n
below_from e n h = grind (arith, nat_tests)

pub in_role_first : (i : Interp) (r : List ℕ) (e f : ℕ) → in_role i r e f ≡ true → e < i.size
unfolding in_role
in_role_first i r e f h = below_from e i.size (all_three _ _ _ h).0

pub in_role_second : (i : Interp) (r : List ℕ) (e f : ℕ) → in_role i r e f ≡ true → f < i.size
unfolding in_role
in_role_second i r e f h = below_from f i.size (all_three _ _ _ h).1.0

not_true : (b : Bool) → not b ≡ false → b ≡ true
not_true true h = refl
not_true false h = absurd (true≢false h)

second_false : (x y : Bool) → x ≡ true → (x && y) ≡ false → y ≡ false
second_false true y h k = k
second_false false y h k = absurd (true≢false (sym h))

both_true : (x y : Bool) → x ≡ true → y ≡ true → (x && y) ≡ true
both_true true y g h = h
both_true false y g h = g

hidden : (x y : Bool) → (x ≡ true → y ≡ true) → (x && not y) ≡ false
hidden true y h = ap not (h refl)
hidden false y h = refl

-- ---- the laws of expressions

pub thing_and_nothing : ThingAndNothing
thing_and_nothing = record { thing = λ i e. at (of_thing i) e; nothing = λ i e. at (of_nothing i) e }

not_not : (b : Bool) → not (not b) ≡ b
not_not true = refl
not_not false = refl

pub two_complements : TwoComplements
two_complements i c e = at (of_not i (expr.Not c)) e ∙ ap not (at (of_not i c) e) ∙ not_not (member i c e)

some_there : (i : Interp) (r : List ℕ) (c : ClassExpr) (e : ℕ) → member i (expr.Some r c) e ≡ true → (f : ℕ) × (in_role i r e f ≡ true) × (member i c f ≡ true)
some_there i r c e h =
    let found = from_some (λ f. in_role i r e f && member i c f) i.size (one_counted _ (sym (at (of_some i r c) e) ∙ h)) in
    let parts = both _ _ found.2 in
    (found.0, parts.0, parts.1)

pub some_from : (i : Interp) (r : List ℕ) (c : ClassExpr) (e f : ℕ) → in_role i r e f ≡ true → member i c f ≡ true → member i (expr.Some r c) e ≡ true
some_from i r c e f p m =
    at (of_some i r c) e ∙ counted_one _ (some_of (λ f. in_role i r e f && member i c f) i.size f (in_role_second i r e f p) (both_true _ _ p m))

all_there : (i : Interp) (r : List ℕ) (c : ClassExpr) (e : ℕ) → member i (expr.All r c) e ≡ true → (f : ℕ) → in_role i r e f ≡ true → member i c f ≡ true
all_there i r c e h f p =
    let none : number_of (λ f. in_role i r e f && not (member i c f)) i.size ≡ 0 = none_counted _ (sym (at (of_all i r c) e) ∙ h) in
    not_true _ (second_false _ _ p (from_none (λ f. in_role i r e f && not (member i c f)) i.size f none (in_role_second i r e f p)))

all_from : (i : Interp) (r : List ℕ) (c : ClassExpr) (e : ℕ) → ((f : ℕ) → in_role i r e f ≡ true → member i c f ≡ true) → member i (expr.All r c) e ≡ true
all_from i r c e h =
    at (of_all i r c) e ∙ ap (λ n. n == 0) (none_of (λ f. in_role i r e f && not (member i c f)) i.size (λ f l. hidden _ _ (h f)))

pub fillers_are : FillersAre
fillers_are = record {
  some = λ i r c e. (some_there i r c e, λ f. some_from i r c e f.0 f.1 f.2);
  all = λ i r c e. (all_there i r c e, all_from i r c e);
  all_by_some = λ i r c e.
      at (of_all i r c) e ∙ none_or_one _ ∙ sym (at (of_not i (expr.Some r (expr.Not c))) e ∙ ap not (at (of_some i r (expr.Not c)) e ∙ (λ k. nat_le 1 (reached i r (of_not i c k) e))));
}

pub numbers_are : NumbersAre
numbers_are = record {
  min_none = λ i r c e. at (of_min i 0 r c) e ∙ least_none _;
  min_one = λ i r c e. at (of_min i 1 r c) e ∙ sym (at (of_some i r c) e);
  max_none = λ i r c e. at (of_max i 0 r c) e ∙ at_most_none _ ∙ sym (at (of_not i (expr.Some r c)) e ∙ ap not (at (of_some i r c) e));
  exact = λ i n r c e. at (of_exact i n r c) e ∙ least_and_most _ n ∙ (λ k. sym (at (of_min i n r c) e) k && sym (at (of_max i n r c) e) k);
}

-- ---- the laws of axioms

same_tests : (x y : Bool) → (x ≡ true → y ≡ true) → (y ≡ true → x ≡ true) → x ≡ y
same_tests true y there back = sym (there refl)
same_tests false true there back = back refl
same_tests false false there back = refl

itself : (x : Bool) → (x && x) ≡ x
itself true = refl
itself false = refl

pub axioms_are : AxiomsAre
unfolding Satisfies
axioms_are = record {
  equivalent = λ i c d. (
    λ h. (λ e l m. sym (h e l) ∙ m, λ e l m. h e l ∙ m),
    λ h e l. same_tests _ _ (h.0 e l) (h.1 e l),
  );
  disjoint = λ i c. (λ h e l. sym (itself _) ∙ h e l, λ h e l. itself _ ∙ h e l);
  equivalent_roles = λ i r s. (
    λ h. (λ e f m. sym (h e f) ∙ m, λ e f m. h e f ∙ m),
    λ h e f. same_tests _ _ (h.0 e f) (h.1 e f),
  );
  transitive = λ i r. (λ h. h, λ h. h);
  symmetric = λ i r. (λ h e f. same_tests _ _ (h e f) (h f e), λ h e f m. sym (h e f) ∙ m);
  asymmetric = λ i r s inverse. (
    λ h e f. (λ k. in_role i r e f && sym (inverse f e) k) ∙ h e f,
    λ h e f. (λ k. in_role i r e f && inverse f e k) ∙ h e f,
  );
  domain = λ i r c. (
    λ h e l m. let f = some_there i r expr.Thing e m in h e f.0 f.1,
    λ h e f p. h e (in_role_first i r e f p) (some_from i r expr.Thing e f p (thing_and_nothing.thing i f)),
  );
  range = λ i r c. (
    λ h e l m. all_from i r c e (λ f p. h e f p),
    λ h e f p. all_there i r c e (h e (in_role_first i r e f p) (thing_and_nothing.thing i e)) f p,
  );
}
