-- One item more at the end of a row.
use Rattle.std.proofs.Common.{◌≡◌, ◌≢◌, ℕ, zero, suc, ◌+◌, ◌<◌, List, [], ◌∷◌, ◌++◌, length, replicate, refl, sym, subst, arith, ◌⊎◌, ⊎_elim, inl, inr, get_or-set_other, get_or-set_same, length-append}
use Rattle.std.proofs.lemmas.Bool.{cases_eq}
use Rattle.std.proofs.lemmas.List.Sums.{sum_by-set}
use Rattle.std.specs.List.{sum_by}
use Rattle.fact_rows.specs.Member.{In, here, there, NoRepeats, none, more}
use Rattle.fact_rows.specs.Rows.{push_at, row}
use Rattle.fact_rows.proofs.Members.{in_left, in_right, in_none, in_one, in_parts}

pub no_repeats_push : {A : Type 0} {xs : List A} {y : A} → NoRepeats xs → (In y xs → ⊥) → NoRepeats (xs ++ y ∷ [])
no_repeats_push none n = more (λ i. in_none i) none
no_repeats_push {y} (more {x} {xs} m r) n = more
    (λ i. ⊎_elim m (λ j. n (subst (λ z. In z (x ∷ xs)) (in_one j) here)) (in_parts xs i))
    (no_repeats_push r (λ i. n (there i)))

-- one row grew by an item at its end
module _ {A : Type 0} (old new : List (List A)) (c : ℕ) (y : A) (l : c < length old) (set : new ≡ push_at old c y) where
  pub row_grown : row new c ≡ row old c ++ y ∷ []
  row_grown = rw set (get_or-set_same old c (row old c ++ y ∷ []) [] l)

  pub row_other : (k : ℕ) → k ≢ c → row new k ≡ row old k
  row_other k n = rw set (get_or-set_other old c k (row old c ++ y ∷ []) [] n)

  pub row_at_end : In y (row new c)
  row_at_end = subst (In y) (sym row_grown) (in_right (row old c) here)

  pub row_stays : (k : ℕ) (x : A) → In x (row old k) → In x (row new k)
  row_stays k x i = ⊎_elim
      (λ (e : k ≡ c). subst (λ j. In x (row new j)) (sym e) (subst (In x) (sym row_grown) (in_left (y ∷ []) (subst (λ j. In x (row old j)) e i))))
      (λ n. subst (In x) (sym (row_other k n)) i)
      (cases_eq k c)

  pub row_only : (k : ℕ) (x : A) → In x (row new k) → In x (row old k) ⊎ ((k ≡ c) × (x ≡ y))
  row_only k x i = ⊎_elim
      (λ (e : k ≡ c). ⊎_elim
      (λ j. inl (subst (λ m. In x (row old m)) (sym e) j))
      (λ j. inr (e, in_one j))
      (in_parts (row old c) (subst (In x) row_grown (subst (λ m. In x (row new m)) e i))))
      (λ n. inl (subst (In x) (row_other k n) i))
      (cases_eq k c)

  pub row_once : (In y (row old c) → ⊥) → ((k : ℕ) → NoRepeats (row old k)) → (k : ℕ) → NoRepeats (row new k)
  row_once n o k = ⊎_elim
      (λ (e : k ≡ c). subst (λ m. NoRepeats (row new m)) (sym e) (subst NoRepeats (sym row_grown) (no_repeats_push (o c) n)))
      (λ m. subst NoRepeats (sym (row_other k m)) (o k))
      (cases_eq k c)

  pub rows_sum : sum_by length new ≡ sum_by length old + 1
  rows_sum = rw set (let s = sum_by-set length old c (row old c ++ y ∷ []) [] l in omega (arith, s, length-append (row old c) (y ∷ [])))

-- empty rows
pub row_empty : {A : Type 0} (n a : ℕ) → row {A = A} (replicate n []) a ≡ []
row_empty zero a = refl
row_empty (suc n) zero = refl
row_empty (suc n) (suc a) = row_empty n a

-- a row that has an item is before the end
pub row_inside : {A : Type 0} (rows : List (List A)) (x : ℕ) {y : A} → In y (row rows x) → x < length rows
row_inside [] x i = in_none i
row_inside (r ∷ rows) zero i = omega arith
row_inside (r ∷ rows) (suc x) i = omega (arith, row_inside rows x i)
