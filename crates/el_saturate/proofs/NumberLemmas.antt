-- Numbers of nodes, one after the other.
use Rattle.std.proofs.Common.{◌≡◌, ℕ, zero, suc, ◌+◌, ◌<◌, ◌≤◌, List, [], ◌∷◌, ◌++◌, Some, inl, inr, length, slice_get, slice_set, take, refl, sym, ap, subst, ◌∙◌, arith}
use Rattle.std.specs.List.{flat_map}
use Rattle.std.proofs.lemmas.Bool.{cases_eq}
use Rattle.std.proofs.lemmas.Grind.{flat_map-append}
use Rattle.std.proofs.lemmas.Option.{slice_get_within}
use Rattle.fact_rows.specs.Member.{NoRepeats}
use Rattle.fact_rows.proofs.Places.{get_push, get_push_kept, get_push_last, set_other, set_same}
use Rattle.owl_axioms.proofs.Adding.{take_suc}
use Rattle.expr_pool.specs.declared.cell.Node.{Node}
use Rattle.el_part.proofs.ClassLemmas.{same_node}
use Rattle.el_saturate.proofs.RoleLemmas.{one_place}
use Rattle.el_saturate.specs.inner.Numbers.{AreNumbers, none}

-- ---- lists that are gone over

pub flat_next : {X Y : Type 0} (f : X → List Y) (xs : List X) (i : ℕ) (x : X) (made more : List Y) → slice_get xs i ≡ Some x → made ≡ flat_map f (take i xs) → more ≡ made ++ f x → more ≡ flat_map f (take (i + 1) xs)
flat_next f xs i x made more at is m =
    let next : suc i ≡ i + 1 = omega arith in
    m ∙ ap (λ l. l ++ f x) is ∙ sym (sym (ap (λ n. flat_map f (take n xs)) next) ∙ ap (flat_map f) (take_suc xs i x at) ∙ flat_map-append f (take i xs) (x ∷ []) ∙ ap (λ l. flat_map f (take i xs) ++ l) (append_none (f x)))
  where
    append_none : {Z : Type 0} (zs : List Z) → zs ++ [] ≡ zs
    append_none [] = refl
    append_none (z ∷ zs) = ap (λ l. z ∷ l) (append_none zs)

pub take_more : {X : Type 0} (xs : List X) (i : ℕ) (x : X) → slice_get xs i ≡ Some x → take (i + 1) xs ≡ take i xs ++ x ∷ []
take_more xs i x at = let next : suc i ≡ i + 1 = omega arith in sym (ap (λ k. take k xs) next) ∙ take_suc xs i x at

pub take_long : {X : Type 0} (i : ℕ) (xs : List X) → i < length xs → length (take i xs) ≡ i
take_long zero xs l = refl
take_long (suc i) [] l = absurd (omega (arith, l))
take_long (suc i) (x ∷ xs) l = ap suc (take_long i xs (omega (arith, l)))

pub take_all : {X : Type 0} (n : ℕ) (xs : List X) → length xs ≤ n → take n xs ≡ xs
take_all zero [] h = refl
take_all zero (x ∷ xs) h = absurd (omega (arith, h))
take_all (suc n) [] h = refl
take_all (suc n) (x ∷ xs) h = ap (λ l. x ∷ l) (take_all n xs (omega (arith, h)))

taken_at : {X : Type 0} (i : ℕ) (xs : List X) (k : ℕ) (x : X) → slice_get (take i xs) k ≡ Some x → slice_get xs k ≡ Some x
taken_at zero xs k x h = absurd cc
taken_at (suc i) [] k x h = absurd cc
taken_at (suc i) (y ∷ xs) zero x h = h
taken_at (suc i) (y ∷ xs) (suc k) x h = taken_at i xs k x h

pub set_long : {X : Type 0} (xs : List X) (k : ℕ) (x : X) → length (slice_set xs k x) ≡ length xs
set_long [] k x = refl
set_long (y ∷ xs) zero x = refl
set_long (y ∷ xs) (suc k) x = ap suc (set_long xs k x)

-- ---- one number more

module _ (nodes : List Node) (count : ℕ) (numbers : List ℕ) (at : ℕ) (n : Node) (here_is : slice_get nodes at ≡ Some n) (once : NoRepeats nodes) (within : n.place < count) (are : AreNumbers (take at nodes) count numbers) where
  abbrev now : List ℕ
  now = slice_set numbers n.place at

  first : List Node
  first = take at nodes

  there_too : n.place < length numbers
  there_too = let e = are.long in omega (arith, within, e)

  here_now : slice_get now n.place ≡ Some at
  here_now = set_same numbers n.place at there_too

  long_first : length (take at nodes) ≡ at
  long_first = take_long at nodes (slice_get_within nodes at n here_is)

  number_now : (k : ℕ) (m : Node) → slice_get (take (at + 1) nodes) k ≡ Some m → slice_get now m.place ≡ Some k
  number_now k m h = elim (get_push (take at nodes) n m k (ap (λ l. slice_get l k) (sym (take_more nodes at n here_is)) ∙ h)) [
    | inl g ↦ set_other numbers n.place m.place at (λ (e : m.place ≡ n.place).
        let same : m ≡ n = same_node m n e in
        let places : k ≡ at = one_place once k at n (taken_at at nodes k m g ∙ ap Some same) here_is in
        let l = slice_get_within (take at nodes) k m g in
        let f = long_first in
        absurd (omega (arith, places, l, f))) ∙ are.number k m g
    | inr p ↦ let e : k ≡ at = p.0 ∙ long_first in subst (λ x. slice_get now x.place ≡ Some k) (sym p.1) (here_now ∙ ap Some (sym e))
  ]

  only_now : (p k : ℕ) → slice_get now p ≡ Some k → k < none → (m : Node) × (slice_get (take (at + 1) nodes) k ≡ Some m) × (m.place ≡ p)
  only_now p k h l = elim (cases_eq p n.place) [
    | inl e ↦
        let same : Some at ≡ Some k = sym here_now ∙ ap (slice_get now) (sym e) ∙ h in
        let is : at ≡ k = cc in
        (n, ap (λ t. slice_get t k) (take_more nodes at n here_is) ∙ ap (slice_get (take at nodes ++ n ∷ [])) (sym is ∙ sym long_first) ∙ get_push_last (take at nodes) n, sym e)
    | inr ne ↦
        let old = are.only p k (sym (set_other numbers n.place p at ne) ∙ h) l in
        (old.0, ap (λ t. slice_get t k) (take_more nodes at n here_is) ∙ get_push_kept (take at nodes) n old.0 k old.1, old.2)
  ]

  pub numbers_next : AreNumbers (take (at + 1) nodes) count now
  numbers_next = record { long = set_long numbers n.place at ∙ are.long; number = number_now; only = only_now }
