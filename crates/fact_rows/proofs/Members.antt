-- Items of lists: in parts, maps, filters and permutations, and where an item comes from.
use Rattle.std.proofs.Common.{◌≡◌, ℕ, zero, suc, ◌<◌, Bool, true, false, not, ◌||◌, List, [], ◌∷◌, ◌++◌, length, slice_index_or, refl, sym, ap, subst, ◌∙◌, arith, ◌⊎◌, ⊎_elim, inl, inr, true≢false, if◌then◌else◌, nat_eq, ◌&&◌, map, filter}
use Rattle.std.specs.List.{Contains, list_any, flat_map}
use Rattle.std.specs.List.Sorted.{IsPermutation}
use Rattle.std.proofs.lemmas.List.Sorted.{Contains-permutation, IsPermutation-sym}
use Rattle.std.proofs.lemmas.Bool.{eqb-true, eq-eqb}
use Rattle.fact_rows.specs.Member.{In, here, there}
use Rattle.fact_rows.specs.Rows.{Inserts}

pub in_left : {A : Type 0} {x : A} {xs : List A} (ys : List A) → In x xs → In x (xs ++ ys)
in_left ys here = here
in_left ys (there i) = there (in_left ys i)

pub in_right : {A : Type 0} {x : A} (xs : List A) {ys : List A} → In x ys → In x (xs ++ ys)
in_right [] i = i
in_right (y ∷ xs) i = there (in_right xs i)

pub in_none : {A : Type 0} {x : A} {P : Type 0} → In x [] → P
in_none i = elim i [ ]

-- in a list of a head and a tail
pub in_cons : {A : Type 0} {x y : A} {xs : List A} → In x (y ∷ xs) → (x ≡ y) ⊎ In x xs
in_cons here = inl refl
in_cons (there i) = inr i

pub in_parts : {A : Type 0} {x : A} (xs : List A) {ys : List A} → In x (xs ++ ys) → In x xs ⊎ In x ys
in_parts [] i = inr i
in_parts (y ∷ xs) i = ⊎_elim
    (λ e. inl (subst (λ z. In z (y ∷ xs)) (sym e) here))
    (λ j. ⊎_elim (λ k. inl (there k)) (λ k. inr k) (in_parts xs j))
    (in_cons i)

pub by_bool : {P : Type 0} (b : Bool) → (b ≡ true → P) → (b ≡ false → P) → P
by_bool true t f = t refl
by_bool false t f = f refl

pub or_true : (b : Bool) → (b || true) ≡ true
or_true true = refl
or_true false = refl

pub and_parts : (a b : Bool) → (a && b) ≡ true → (a ≡ true) × (b ≡ true)
and_parts true b h = (refl, h)
and_parts false b h = absurd (true≢false (sym h))

-- tests of pairs of numbers
pub pair_tells : (x y : ℕ × ℕ) → (nat_eq x.0 y.0 && nat_eq x.1 y.1) ≡ true → x ≡ y
pair_tells x y h = let p = and_parts _ _ h in let a = eqb-true x.0 y.0 p.0 in let b = eqb-true x.1 y.1 p.1 in same_pair x y a b
  where
    same_pair : (x y : ℕ × ℕ) → x.0 ≡ y.0 → x.1 ≡ y.1 → x ≡ y
    same_pair x y a b = λ k. (a k, b k)

pub pair_same : (x : ℕ × ℕ) → (nat_eq x.0 x.0 && nat_eq x.1 x.1) ≡ true
pair_same x = rw (eq-eqb x.0 x.0 refl, eq-eqb x.1 x.1 refl) refl

module _ {A : Type 0} (eq : A → A → Bool) (tells : (x y : A) → eq x y ≡ true → x ≡ y) (same : (x : A) → eq x x ≡ true) where
  pub in_any : (x : A) (xs : List A) → list_any (eq x) xs ≡ true → In x xs
  in_any x [] h = absurd (true≢false (sym h))
  in_any x (y ∷ ys) h = by_bool (eq x y)
      (λ e. subst (λ z. In x (z ∷ ys)) (tells x y e) here)
      (λ e. there (in_any x ys (rw e at h)))

  pub any_in : (x : A) {xs : List A} → In x xs → list_any (eq x) xs ≡ true
  any_in x (here {xs}) = rw (same x) refl
  any_in x (there {y} {xs} i) = rw (any_in x i) (or_true (eq x y))

  pub inserts : (old new : List A) (x : A) (b fresh : Bool) → list_any (eq x) old ≡ b → fresh ≡ not b → new ≡ (if b then old else old ++ x ∷ []) → Inserts old x fresh new
  inserts old new x true fresh e f n = subst (λ v. Inserts old x v new) (sym f) (n, in_any x old e)
  inserts old new x false fresh e f n = subst (λ v. Inserts old x v new) (sym f) (n, λ i. absurd (true≢false (sym (any_in x i) ∙ e)))

pub in_map : {A B : Type 0} (f : A → B) {x : A} {xs : List A} → In x xs → In (f x) (map f xs)
in_map f here = here
in_map f (there i) = there (in_map f i)

pub in_flat_map : {A B : Type 0} (f : A → List B) {x : A} {xs : List A} {y : B} → In x xs → In y (f x) → In y (flat_map f xs)
in_flat_map f (here {xs}) j = in_left (flat_map f xs) j
in_flat_map f (there {y = z} i) j = in_right (f z) (in_flat_map f i j)

pub in_filter : {A : Type 0} (test : A → Bool) {x : A} {xs : List A} → In x xs → test x ≡ true → In x (filter test xs)
in_filter test {x} (here {xs}) t = rw t here
in_filter test {x} (there {y} {xs} i) t = by_bool (test y)
    (λ e. rw e (there (in_filter test i t)))
    (λ e. rw e (in_filter test i t))

-- where an item comes from
pub record From {A B : Type 0} (f : A → B) (y : B) (xs : List A) : Type 0 where
  pub it : A
  pub inside : In it xs
  pub is : y ≡ f it

pub from_map : {A B : Type 0} (f : A → B) {y : B} (xs : List A) → In y (map f xs) → From f y xs
from_map f [] i = in_none i
from_map f (x ∷ xs) i = ⊎_elim
    (λ e. record { it = x; inside = here; is = e })
    (λ j. let r = from_map f xs j in record { it = r.it; inside = there r.inside; is = r.is })
    (in_cons i)

pub record FromSome {A B : Type 0} (f : A → List B) (y : B) (xs : List A) : Type 0 where
  pub it : A
  pub inside : In it xs
  pub out : In y (f it)

pub from_flat_map : {A B : Type 0} (f : A → List B) {y : B} (xs : List A) → In y (flat_map f xs) → FromSome f y xs
from_flat_map f [] i = in_none i
from_flat_map f (x ∷ xs) i = ⊎_elim
    (λ j. record { it = x; inside = here; out = j })
    (λ j. let r = from_flat_map f xs j in record { it = r.it; inside = there r.inside; out = r.out })
    (in_parts (f x) i)

pub from_filter : {A : Type 0} (test : A → Bool) {x : A} (xs : List A) → In x (filter test xs) → In x xs × (test x ≡ true)
from_filter test [] i = in_none i
from_filter test {x} (y ∷ ys) i = by_bool (test y)
    (λ e. ⊎_elim
    (λ (s : x ≡ y). (subst (λ z. In z (y ∷ ys)) (sym s) here, ap test s ∙ e))
    (λ j. let r = from_filter test ys j in (there r.0, r.1))
    (in_cons (rw e at i)))
    (λ e. let r = from_filter test ys (rw e at i) in (there r.0, r.1))

pub no_items : {A : Type 0} (xs : List A) → length xs ≡ 0 → xs ≡ []
no_items [] e = refl
no_items (x ∷ xs) e = absurd (omega arith)

-- in a list of one item
pub in_one : {A : Type 0} {x y : A} → In x (y ∷ []) → x ≡ y
in_one i = ⊎_elim (λ e. e) (λ j. in_none j) (in_cons i)

-- what stands at a place
pub in_at : {A : Type 0} (xs : List A) (i : ℕ) (d : A) → i < length xs → In (slice_index_or xs i d) xs
in_at [] i d l = absurd (omega arith)
in_at (x ∷ xs) zero d l = here
in_at (x ∷ xs) (suc i) d l = there (in_at xs i d (omega arith))

-- as std says it, and back
pub in_from_contains : {A : Type 0} (xs : List A) (x : A) → Contains xs x → In x xs
in_from_contains xs x c = subst (λ z. In z xs) c.2 (in_at xs c.0 x c.1)

pub contains_from_in : {A : Type 0} {x : A} {xs : List A} → In x xs → Contains xs x
contains_from_in {A} {x} (here {xs}) = (0, omega arith, refl)
contains_from_in {A} {x} (there {y} {xs} i) = let r = contains_from_in i in (suc r.0, omega (arith, r.1), r.2)

-- in another order
pub in_permuted : {A : Type 0} (xs ys : List A) → IsPermutation xs ys → (x : A) → In x xs → In x ys
in_permuted xs ys p x i = in_from_contains ys x (Contains-permutation xs ys x p (contains_from_in i))

pub in_unpermuted : {A : Type 0} (xs ys : List A) → IsPermutation xs ys → (x : A) → In x ys → In x xs
in_unpermuted xs ys p x i = in_permuted ys xs (IsPermutation-sym xs ys p) x i
