-- The empty table and the facts without premises.
use Rattle.std.proofs.Common.{◌≡◌, ℕ, zero, suc, ◌<◌, ◌≤◌, List, [], ◌∷◌, length, replicate, refl, sym, ap, subst, ◌∙◌, arith, ⊎_elim}
use Rattle.std.specs.List.{sum_by}
use Rattle.std.proofs.lemmas.Bool.{cases_eq}
use Rattle.el_numbers.specs.Rules.{Rule, itself, in_thing, by_inclusion, to_operand, to_and, by_disjoint, to_link, by_role, by_chain, from_link, by_domain, to_nothing, Derived, step}
use Rattle.el_numbers.specs.Saturated.{IsMore}
use Rattle.el_numbers.specs.declared.fact.Fact.{Fact}
use Rattle.el_numbers.specs.declared.fact.Fact.TheVariants.{Below, Link}
use Rattle.el_numbers.specs.declared.part.NumberedPart.{NumberedPart}
use Rattle.el_numbers.specs.declared.storing.FactRows.{FactRows}
use Rattle.el_numbers.specs.inner.Going.{IsUnderWay, starts}
use Rattle.el_numbers.specs.inner.Storing.{Holds, IsWithin, IsLinked, Adds, GoesOver, IsEmpty}
use Rattle.fact_rows.proofs.Members.{in_left, in_right, in_none, in_cons, in_parts, in_map}
use Rattle.fact_rows.specs.Member.{In, here, there, NoRepeats, none}
use Rattle.fact_rows.specs.Rows.{row}
use Rattle.el_numbers.specs.Proper.{IsProper}
use Rattle.el_numbers.specs.inner.Storing.{state_of, IsCounted}

row_none : (A : Type 0) (n c : ℕ) → row {A = A} (replicate n []) c ≡ []
row_none A zero c = refl
row_none A (suc n) zero = refl
row_none A (suc n) (suc c) = row_none A n c

sum_none : (A : Type 0) (n : ℕ) → sum_by (length {A = A}) (replicate n []) ≡ 0
sum_none A zero = refl
sum_none A (suc n) = sum_none A n

pub length_none : (A : Type 0) (n : ℕ) → length {A = List A} (replicate n []) ≡ n
length_none A zero = refl
length_none A (suc n) = ap suc (length_none A n)

empty_row : {A : Type 0} (n : ℕ) {rows : List (List A)} (c : ℕ) → rows ≡ replicate n [] → row rows c ≡ []
empty_row {A} n c e = ap (λ (r : List (List A)). row r c) e ∙ row_none A n c

pub in_empty : {A : Type 0} (n : ℕ) {rows : List (List A)} {x : A} {P : Type 0} (c : ℕ) → rows ≡ replicate n [] → In x (row rows c) → P
in_empty n {x} c e i = in_none (subst (In x) (empty_row n c e) i)

pub empty_is_linked : {n : ℕ} {t : FactRows} → IsEmpty n t → IsLinked t
empty_is_linked {n} {t} e = record {
  links_long = ap length e.links ∙ length_none _ n ∙ sym (ap length e.below ∙ length_none _ n);
  back_long = ap length e.back ∙ length_none _ n ∙ sym (ap length e.below ∙ length_none _ n);
  once = record {
    below = λ c. subst NoRepeats (sym (empty_row n c e.below)) none;
    links = λ c. subst NoRepeats (sym (empty_row n c e.links)) none;
  };
  to_back = λ b r c i. in_empty n b e.links i;
  from_back = λ b r c i. in_empty n c e.back i;
}

pub empty_is_counted : {n : ℕ} {t : FactRows} → IsEmpty n t → IsCounted t
empty_is_counted {n} {t} e = rw (e.count, e.below, e.links) (let a = sum_none ℕ n in let b = sum_none (ℕ × ℕ) n in omega (arith, a, b))

pub empty_long : {n : ℕ} {t : FactRows} → IsEmpty n t → length t.below.items ≡ n
empty_long {n} e = ap length e.below ∙ length_none _ n

pub has_none : {n : ℕ} {t : FactRows} {P : Type 0} → IsEmpty n t → (g : Fact) → Holds t g → P
has_none {n} e (Below c d) i = in_empty n c e.below i
has_none {n} e (Link c r d) i = in_empty n c e.links i

within_more : (n : ℕ) (g : Fact) → IsWithin n g → IsWithin (suc n) g
within_more n (Below c d) l = omega arith
within_more n (Link c r d) l = let a = l.0 in let b = l.1 in (omega arith, omega arith)

pub start_within : (n : ℕ) (g : Fact) → In g (starts n) → IsWithin n g
start_within zero g i = in_none i
start_within (suc n) g i = ⊎_elim
    (λ j. within_more n g (start_within n g j))
    (λ j. ⊎_elim
    (λ e. subst (IsWithin (suc n)) (sym e) (omega arith))
    (λ k. ⊎_elim (λ e. subst (IsWithin (suc n)) (sym e) (omega arith)) (λ m. in_none m) (in_cons k))
    (in_cons j))
    (in_parts (starts n) i)

module _ (part : NumberedPart) where
  pub start_derived : (n : ℕ) → n ≤ length part.shapes.items → (g : Fact) → In g (starts n) → Derived part g
  start_derived zero l g i = in_none i
  start_derived (suc n) l g i = ⊎_elim
      (λ j. start_derived n (omega arith) g j)
      (λ j. ⊎_elim
      (λ e. subst (Derived part) (sym e) (step (itself (omega arith)) (λ p k. in_none k)))
      (λ k. ⊎_elim (λ e. subst (Derived part) (sym e) (step (in_thing (omega arith)) (λ p m. in_none m))) (λ m. in_none m) (in_cons k))
      (in_cons j))
      (in_parts (starts n) i)

  pub in_starts : (n c : ℕ) → c < n → In (Below c c) (starts n) × In (Below c 0) (starts n)
  in_starts zero c l = absurd (omega arith)
  in_starts (suc n) c l = ⊎_elim
      (λ (e : c ≡ n). rw e (in_right (starts n) here, in_right (starts n) (there here)))
      (λ m. let p = in_starts n c (omega arith) in (in_left (Below n n ∷ Below n 0 ∷ []) p.0, in_left (Below n n ∷ Below n 0 ∷ []) p.1))
      (cases_eq c n)

  first_of : {P : Type 0} (xs : List ℕ) → (xs ≡ [] → ⊥) → ((x : ℕ) → In x xs → P) → P
  first_of [] n h = absurd (n refl)
  first_of (x ∷ xs) n h = h x here

  pub begins : IsProper part → (limit n : ℕ) (t u : FactRows) (w : List Fact) → n ≡ length part.shapes.items → IsEmpty n t → Adds t [] (starts n) u w → u.count ≤ limit → IsUnderWay part limit u w
  begins proper limit n t u w same e a few = record {
    is_linked = a.is_linked;
    is_counted = a.is_counted;
    long = a.long ∙ ap length e.below ∙ length_none _ n ∙ same;
    sound = λ g h. ⊎_elim (λ k. has_none e g k) (λ p. start_derived n (omega (arith, same)) g p.0) (a.news g h);
    waits = λ g i. ⊎_elim (λ j. in_none j) (λ k. k) (a.waiting g i);
    closed = closed';
    few = few;
  }
    where
      waits' : {P : Type 0} {f : Fact} → Holds u f → (In f w → ⊥) → P
      waits' {f} h m = ⊎_elim (λ k. has_none e f k) (λ p. absurd (m p.1)) (a.news f h)

      closed' : (ps : List Fact) (h : Fact) → Rule part ps h → ((p : Fact) → In p ps → Holds u p × (In p w → ⊥)) → Holds u h
      closed' ps h (itself {c} l) all = a.added (Below c c) (in_starts n c (omega (arith, same))).0
      closed' ps h (in_thing {c} l) all = a.added (Below c 0) (in_starts n c (omega (arith, same))).1
      closed' ps h (by_inclusion {c} {d} k) all = let p = all (Below c d) here in waits' p.0 p.1
      closed' ps h (to_operand {c} {a = d} k) all = let p = all (Below c d) here in waits' p.0 p.1
      closed' ps h (to_and {c} {a} n) all = first_of (row part.operands.items a) (proper.has_operand a n) (λ x i. let p = all (Below c x) (in_map (λ (y : ℕ). Below c y) i) in waits' p.0 p.1)
      closed' ps h (by_disjoint {c} {d} k) all = let p = all (Below c d) here in waits' p.0 p.1
      closed' ps h (to_link {c} {s} k) all = let p = all (Below c s) here in waits' p.0 p.1
      closed' ps h (by_role {c} {r} {d} k) all = let p = all (Link c r d) here in waits' p.0 p.1
      closed' ps h (by_chain {c} {r} {d} k) all = let p = all (Link c r d) here in waits' p.0 p.1
      closed' ps h (from_link {c} {r} {d} k) all = let p = all (Link c r d) here in waits' p.0 p.1
      closed' ps h (by_domain {c} {r} {d} k) all = let p = all (Link c r d) here in waits' p.0 p.1
      closed' ps h (to_nothing {c} {r} {d}) all = let p = all (Link c r d) here in waits' p.0 p.1

  pub start_over : (limit n : ℕ) (t u : FactRows) → n ≡ length part.shapes.items → IsEmpty n t → GoesOver t (starts n) u limit → IsMore part limit
  start_over limit n t u same e o = record {
    table = state_of u;
    once = o.once;
    derived = λ g h. ⊎_elim (λ k. has_none e g k) (λ i. start_derived n (omega (arith, same)) g i) (o.only g h);
    more = o.more;
  }
