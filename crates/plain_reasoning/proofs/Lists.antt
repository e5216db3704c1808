-- Lists and tests.
use Rattle.std.proofs.Common.{◌≡◌, ◌⊎◌, ◌≤◌, ◌<◌, Bool, true, false, ◌&&◌, List, [], ◌∷◌, filter, length, inl, inr, ⊎_elim, refl, sym, ap, ◌∙◌, true≢false, arith, cond}
use Rattle.std.specs.List.{list_all, list_any}
use Rattle.fact_rows.specs.Member.{In, NoRepeats, here, more, none, there}
use Rattle.fact_rows.proofs.Members.{and_parts, by_bool, from_filter, or_true}

-- ---- tests of all items

pub all_from : {A : Type 0} (test : A → Bool) (xs : List A) → ((x : A) → In x xs → test x ≡ true) → list_all test xs ≡ true
all_from test [] h = refl
all_from test (x ∷ xs) h = let first = h x here in let rest = all_from test xs (λ y i. h y (there i)) in λ j. first j && rest j

pub each_of : {A : Type 0} (test : A → Bool) {x : A} {xs : List A} → list_all test xs ≡ true → In x xs → test x ≡ true
each_of test h (here {xs}) = (and_parts _ _ h).0
each_of test h (there {y} {xs} i) = each_of test (and_parts (test y) (list_all test xs) h).1 i

-- ---- what a weaker test leaves

-- it leaves as much, and then the same, or more
module _ {A : Type 0} (p q : A → Bool) (weaker : (x : A) → p x ≡ true → q x ≡ true) where
  abbrev Grows : List A → List A → Type 0
  Grows fewer many = (fewer ≡ many) ⊎ (length fewer < length many)

  one_more : (x : A) (fewer many : List A) (s t : Bool) → p x ≡ s → q x ≡ t → Grows fewer many → Grows (cond s (x ∷ fewer) fewer) (cond t (x ∷ many) many)
  one_more x fewer many true true e f grown = ⊎_elim (λ is. inl (ap (λ rest. x ∷ rest) is)) (λ less. inr (omega (arith, less))) grown
  one_more x fewer many true false e f grown = absurd (true≢false (sym (weaker x e) ∙ f))
  one_more x fewer many false true e f grown = ⊎_elim (λ is. inr (let long = ap length is in omega (arith, long))) (λ less. inr (omega (arith, less))) grown
  one_more x fewer many false false e f grown = grown

  pub grows : (xs : List A) → (filter p xs ≡ filter q xs) ⊎ (length (filter p xs) < length (filter q xs))
  grows [] = inl refl
  grows (x ∷ xs) = one_more x (filter p xs) (filter q xs) (p x) (q x) refl refl (grows xs)

pub filter_short : {A : Type 0} (p : A → Bool) (xs : List A) → length (filter p xs) ≤ length xs
filter_short p [] = omega arith
filter_short p (x ∷ xs) = by (p x) (filter_short p xs)
  where
    by : (s : Bool) → length (filter p xs) ≤ length xs → length (cond s (x ∷ filter p xs) (filter p xs)) ≤ length (x ∷ xs)
    by true less = omega (arith, less)
    by false less = omega (arith, less)

pub filter_none : {A : Type 0} (xs : List A) → filter (λ (x : A). false) xs ≡ []
filter_none [] = refl
filter_none (x ∷ xs) = filter_none xs

-- ---- without repeats

pub filter_once : {A : Type 0} (p : A → Bool) {xs : List A} → NoRepeats xs → NoRepeats (filter p xs)
filter_once p none = none
filter_once p (more {x} {xs} n r) = by_bool (p x)
    (λ e. rw e (more (λ i. n (from_filter p xs i).0) (filter_once p r)))
    (λ e. rw e (filter_once p r))

-- ---- tests of some item

pub any_from : {A : Type 0} (test : A → Bool) {x : A} {xs : List A} → In x xs → test x ≡ true → list_any test xs ≡ true
any_from test (here {xs}) t = rw t refl
any_from test (there {y} {xs} i) t = rw (any_from test i t) (or_true (test y))

pub record FromSome {A : Type 0} (test : A → Bool) (xs : List A) : Type 0 where
  pub it : A
  pub inside : In it xs
  pub passes : test it ≡ true

pub from_some : {A : Type 0} (test : A → Bool) (xs : List A) → list_any test xs ≡ true → FromSome test xs
from_some test [] h = absurd (true≢false (sym h))
from_some test (x ∷ xs) h = by_bool (test x)
    (λ e. record { it = x; inside = here; passes = e })
    (λ e. let r = from_some test xs (rw e at h) in record { it = r.it; inside = there r.inside; passes = r.passes })
