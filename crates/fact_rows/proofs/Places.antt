-- What stands at a place of a list, before and after a write or a push.
use Rattle.std.proofs.Common.{◌≡◌, ◌≢◌, ℕ, zero, suc, ◌<◌, List, [], ◌∷◌, ◌++◌, length, slice_get, slice_index_or, slice_set, take, drop, Some, None, refl, ap, subst, sym, arith, ◌⊎◌, ⊎_elim, inl, inr, append-nil}
use Rattle.std.proofs.lemmas.List.{drop_all, take_all}
use Rattle.fact_rows.specs.Member.{In, here, there}

pub set_same : {A : Type 0} (xs : List A) (i : ℕ) (v : A) → i < length xs → slice_get (slice_set xs i v) i ≡ Some v
set_same [] i v l = absurd (omega arith)
set_same (x ∷ xs) zero v l = refl
set_same (x ∷ xs) (suc i) v l = set_same xs i v (omega arith)

pub set_other : {A : Type 0} (xs : List A) (i k : ℕ) (v : A) → k ≢ i → slice_get (slice_set xs i v) k ≡ slice_get xs k
set_other [] i k v n = refl
set_other (x ∷ xs) zero zero v n = absurd (n refl)
set_other (x ∷ xs) zero (suc k) v n = refl
set_other (x ∷ xs) (suc i) zero v n = refl
set_other (x ∷ xs) (suc i) (suc k) v n = set_other xs i k v (λ e. n (ap suc e))

-- a place where something stands is before the end
pub get_inside : {A : Type 0} (xs : List A) (i : ℕ) (x : A) → slice_get xs i ≡ Some x → i < length xs
get_inside [] i x h = cc
get_inside (y ∷ xs) zero x h = omega arith
get_inside (y ∷ xs) (suc i) x h = omega (arith, get_inside xs i x h)

pub get_read : {A : Type 0} (xs : List A) (i : ℕ) (d : A) → i < length xs → slice_get xs i ≡ Some (slice_index_or xs i d)
get_read [] i d l = absurd (omega arith)
get_read (x ∷ xs) zero d l = refl
get_read (x ∷ xs) (suc i) d l = get_read xs i d (omega arith)

-- one item more at the end
pub get_push_last : {A : Type 0} (xs : List A) (x : A) → slice_get (xs ++ x ∷ []) (length xs) ≡ Some x
get_push_last [] x = refl
get_push_last (y ∷ xs) x = get_push_last xs x

pub get_push_kept : {A : Type 0} (xs : List A) (x y : A) (i : ℕ) → slice_get xs i ≡ Some y → slice_get (xs ++ x ∷ []) i ≡ Some y
get_push_kept [] x y i h = cc
get_push_kept (z ∷ xs) x y zero h = h
get_push_kept (z ∷ xs) x y (suc i) h = get_push_kept xs x y i h

pub get_push : {A : Type 0} (xs : List A) (x y : A) (i : ℕ) → slice_get (xs ++ x ∷ []) i ≡ Some y → (slice_get xs i ≡ Some y) ⊎ ((i ≡ length xs) × (y ≡ x))
get_push [] x y zero h = inr (refl, cc)
get_push [] x y (suc i) h = let k : None ≡ Some y = h in cc
get_push (z ∷ xs) x y zero h = inl h
get_push (z ∷ xs) x y (suc i) h = ⊎_elim inl (λ (e : (i ≡ length xs) × (y ≡ x)). inr (omega (arith, e.0), e.1)) (get_push xs x y i h)

-- what stands at a place stands in the list, and the other way round
pub in_from_get : {A : Type 0} (xs : List A) (i : ℕ) (x : A) → slice_get xs i ≡ Some x → In x xs
in_from_get [] i x h = let k : None ≡ Some x = h in cc
in_from_get (y ∷ xs) zero x h = let e : x ≡ y = cc in subst (λ z. In z (y ∷ xs)) (sym e) here
in_from_get (y ∷ xs) (suc i) x h = there (in_from_get xs i x h)

pub record HasPlace {A : Type 0} (x : A) (xs : List A) : Type 0 where
  pub at : ℕ
  pub is : slice_get xs at ≡ Some x

pub place_of : {A : Type 0} {x : A} {xs : List A} → In x xs → HasPlace x xs
place_of here = record { at = 0; is = refl }
place_of (there i) = let r = place_of i in record { at = suc r.at; is = r.is }

-- a list that was lent whole comes back as what was made of it
pub put_back : {A : Type 0} (old new : List A) (n : ℕ) → n ≡ length old → length new ≡ length old → take n (new ++ drop (length new) old) ≡ new
put_back old new n e l = rw (drop_all (length new) old (omega arith), append-nil new) (take_all n new (omega arith))
