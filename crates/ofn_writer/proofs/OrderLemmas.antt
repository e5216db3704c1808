-- Texts in the order of their bytes: what a sort makes of them is what is defined, and two lists in order with the same
-- totals are one.
use Rattle.std.proofs.Common.{◌≡◌, ◌<◌, ◌+◌, ℕ, zero, suc, Bool, true, false, cond, IsPermutation, List, [], ◌∷◌, get_or, length, map, refl, sym, ap, ◌∙◌, arith, true≢false}
use Rattle.std.specs.Cmp.{IsStrictWeakOrder}
use Rattle.std.specs.Cmp.Lexicographic.{nat_list_cmp_total, slice_cmp}
use Rattle.std.specs.List.{All, AllByRecursion}
use Rattle.std.specs.List.Sorted.{IsSorted}
use Rattle.std.specs.Ordering.{is_lt, nat_cmp, ordering_reverse}
use Rattle.std.specs.declared.cmp.Ordering.{Ordering}
use Rattle.std.specs.declared.cmp.Ordering.TheVariants.{Equal, Greater, Less}
use Rattle.std.specs.Str.{bytes_eq}
use Rattle.std.specs.FinMap.{nat_cmp-IsAntisymmetric, slice_cmp-IsAntisymmetric}
use Rattle.std.proofs.lemmas.List.Sorted.{ranks_by, sorted_far, sum_by-IsPermutation}
use Rattle.ofn_writer.specs.Laws.{Ascends, times}
use Rattle.ofn_writer.specs.Sorted.{sorted, with_text}
use Rattle.ofn_writer.proofs.ListLemmas.{total, total-map, total_is}

-- a text is below another
abbrev below : List ℕ → List ℕ → Bool
below one other = is_lt (slice_cmp nat_cmp one other)

weak : IsStrictWeakOrder below
weak = ranks_by nat_list_cmp_total (λ t. t)

-- ---- the definition

above_both : (t u : List ℕ) (us : List (List ℕ)) → below u t ≡ false → AllByRecursion (λ v. below v u ≡ false) us → AllByRecursion (λ v. below v t ≡ false) us
above_both t u [] first all = tt
above_both t u (v ∷ us) first all = (weak.chain v u t all.0 first, above_both t u us first all.1)

all_with : (u t : List ℕ) (us : List (List ℕ)) → below t u ≡ false → AllByRecursion (λ v. below v u ≡ false) us → AllByRecursion (λ v. below v u ≡ false) (with_text t us)
all_with u t [] one all = (one, tt)
all_with u t (v ∷ us) one all =
    elim (below v t) as (λ b. AllByRecursion (λ w. below w u ≡ false) (cond b (v ∷ with_text t us) (t ∷ v ∷ us))) [
      | true ↦ (all.0, all_with u t us one all.1)
      | false ↦ (one, all)
    ]

Ascends-with : (t : List ℕ) (us : List (List ℕ)) → Ascends us → Ascends (with_text t us)
Ascends-with t [] up = (tt, tt)
Ascends-with t (u ∷ us) up =
    elim (below u t) as (λ b. below u t ≡ b → Ascends (cond b (u ∷ with_text t us) (t ∷ u ∷ us))) [
      | true ↦ λ less. (all_with u t us (weak.one_way u t less) up.0, Ascends-with t us up.1)
      | false ↦ λ not_less. ((not_less, above_both t u us not_less up.0), up)
    ] refl

pub Ascends-sorted : (ts : List (List ℕ)) → Ascends (sorted ts)
unfolding sorted
Ascends-sorted [] = tt
Ascends-sorted (t ∷ ts) = Ascends-with t (sorted ts) (Ascends-sorted ts)

total-with : (f : List ℕ → ℕ) (t : List ℕ) (us : List (List ℕ)) → total f (with_text t us) ≡ f t + total f us
total-with f t [] = refl
total-with f t (u ∷ us) =
    elim (below u t) as (λ b. total f (cond b (u ∷ with_text t us) (t ∷ u ∷ us)) ≡ f t + (f u + total f us)) [
      | true ↦ let more = total-with f t us in omega arith
      | false ↦ refl
    ]

pub total-sorted : (f : List ℕ → ℕ) (ts : List (List ℕ)) → total f (sorted ts) ≡ total f ts
unfolding sorted
total-sorted f [] = refl
total-sorted f (t ∷ ts) = total-with f t (sorted ts) ∙ ap (λ n. f t + n) (total-sorted f ts)

times_are : (t : List ℕ) (us : List (List ℕ)) → times t us ≡ total (λ u. cond (bytes_eq t u) 1 0) us
times_are t [] = refl
times_are t (u ∷ us) = ap (λ n. cond (bytes_eq t u) 1 0 + n) (times_are t us)

pub times-sorted : (t : List ℕ) (us : List (List ℕ)) → times t (sorted us) ≡ times t us
times-sorted t us = times_are t (sorted us) ∙ total-sorted (λ u. cond (bytes_eq t u) 1 0) us ∙ sym (times_are t us)

-- ---- two lists in order

-- one for each text below another
abbrev counts : List ℕ → List ℕ → ℕ
counts t u = cond (below u t) 1 0

none_below : (t : List ℕ) (us : List (List ℕ)) → AllByRecursion (λ u. below u t ≡ false) us → total (counts t) us ≡ 0
none_below t [] all = refl
none_below t (u ∷ us) all = (λ i. cond (all.0 i) 1 0 + none_below t us all.1 i)

itself : (t : List ℕ) → below t t ≡ false
itself t =
    elim (below t t) as (λ b. below t t ≡ b → b ≡ false) [
      | true ↦ λ less. sym less ∙ weak.one_way t t less
      | false ↦ λ _. refl
    ] refl

first_not_below : (t u : List ℕ) (ts us : List (List ℕ)) → Ascends (u ∷ us) → total (counts u) (t ∷ ts) ≡ total (counts u) (u ∷ us) → below t u ≡ false
first_not_below t u ts us up same =
    let none : total (counts u) (u ∷ us) ≡ 0 = none_below u (u ∷ us) (itself u, up.0) in
    elim (below t u) as (λ b. cond b 1 0 + total (counts u) ts ≡ 0 → b ≡ false) [
      | true ↦ λ zero_is. absurd (omega arith)
      | false ↦ λ _. refl
    ] (same ∙ none)

tied : (o back : Ordering) → o ≡ ordering_reverse back → is_lt o ≡ false → is_lt back ≡ false → o ≡ Equal
tied Less back turned not_less not_back = absurd (true≢false not_less)
tied Equal back turned not_less not_back = refl
tied Greater Less turned not_less not_back = absurd (true≢false not_back)
tied Greater Equal turned not_less not_back = absurd (let h : Greater ≡ Equal = turned in cc)
tied Greater Greater turned not_less not_back = absurd (let h : Greater ≡ Less = turned in cc)

same_firsts : (t u : List ℕ) → below t u ≡ false → below u t ≡ false → t ≡ u
same_firsts t u one other =
    slice_cmp-IsAntisymmetric nat_cmp-IsAntisymmetric t u (tied (slice_cmp nat_cmp t u) (slice_cmp nat_cmp u t) (nat_list_cmp_total.antisymm t u) one other)

pub same_ascending : (ts us : List (List ℕ)) → Ascends ts → Ascends us → ((f : List ℕ → ℕ) → total f ts ≡ total f us) → ts ≡ us
same_ascending [] [] up also same = refl
same_ascending [] (u ∷ us) up also same = let h : 0 ≡ 1 + total (λ _. 1) us = same (λ _. 1) in absurd (omega arith)
same_ascending (t ∷ ts) [] up also same = let h : 1 + total (λ _. 1) ts ≡ 0 = same (λ _. 1) in absurd (omega arith)
same_ascending (t ∷ ts) (u ∷ us) up also same =
    let first = same_firsts t u (first_not_below t u ts us also (same (counts u))) (first_not_below u t us ts up (sym (same (counts t)))) in
    let rest = same_ascending ts us up.1 also.1 (λ f. let all : f t + total f ts ≡ f u + total f us = same f in let one : f t ≡ f u = ap f first in omega arith) in
    λ i. first i ∷ rest i

-- ---- what a sort makes

module _ {X : Type 0} (key : X → List ℕ) where
  abbrev keys_below : X → X → Bool
  keys_below x y = below (key x) (key y)

  none_is_below : (x : X) (xs : List X) → All (λ y. keys_below y x ≡ false) xs → AllByRecursion (λ u. below u (key x) ≡ false) (map key xs)
  none_is_below x [] all = tt
  none_is_below x (y ∷ xs) all = (all zero y (omega arith), none_is_below x xs (λ k d within. all (suc k) d (omega arith)))

  ascends : (xs : List X) → ((i j : ℕ) (d : X) → i < j → j < length xs → keys_below (get_or xs j d) (get_or xs i d) ≡ false) → Ascends (map key xs)
  ascends [] h = tt
  ascends (x ∷ xs) h =
      (none_is_below x xs (λ k d within. h zero (suc k) d (omega arith) (omega arith)), ascends xs (λ i j d less within. h (suc i) (suc j) d (omega arith) (omega arith)))

  pub sorted_is : (xs ys : List X) → IsPermutation xs ys → IsSorted (λ x y. slice_cmp nat_cmp (key x) (key y)) ys → map key ys ≡ sorted (map key xs)
  sorted_is xs ys permuted up =
      same_ascending (map key ys) (sorted (map key xs)) (ascends ys (λ i j d less within. sorted_far keys_below (ranks_by nat_list_cmp_total key) ys up i j d (omega arith) within)) (Ascends-sorted (map key xs))
      (λ f.
      total-map key f ys
      ∙ sym (total_is (λ x. f (key x)) ys)
      ∙ sum_by-IsPermutation (λ x. f (key x)) xs ys permuted
      ∙ total_is (λ x. f (key x)) xs
      ∙ sym (total-map key f xs)
      ∙ sym (total-sorted f (map key xs)))
