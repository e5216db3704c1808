-- Items sorted by a key are told by their members, whatever the order of keys.
use Rattle.std.proofs.Common.{◌≡◌, ◌⊎◌, List, [], ◌∷◌, inl, inr, ⊎_elim, refl, sym, ap, subst, ◌∙◌}
use Rattle.std.specs.BTreeSet.{insert_key}
use Rattle.std.specs.Cmp.{on_total, tied_itself}
use Rattle.std.specs.Ordering.{match_ordering, ordering_reverse}
use Rattle.std.specs.declared.cmp.Ordering.{Ordering}
use Rattle.std.specs.declared.cmp.Ordering.TheVariants.{Equal, Greater, Less}
use Rattle.text_sets.specs.Sets.{AreTold, In, SameMembers}
use Rattle.text_sets.specs.Sorted.{IsBelowOn, IsKeyOrder, RisesOn, by_key, sorted_on}

module _ {K : Type 0} (cmp : K → K → Ordering) (order : IsKeyOrder cmp) where
  pub never_below_itself : {X : Type 0} (key : X → K) (x y : X) → x ≡ y → by_key cmp key x y ≡ Less → ⊥
  never_below_itself key x y is less =
      let h : Equal ≡ Less = sym (tied_itself (on_total key order.total) x) ∙ ap (by_key cmp key x) is ∙ less in absurd (cc)

  never_both : {X : Type 0} (key : X → K) (x y : X) → by_key cmp key x y ≡ Less → by_key cmp key y x ≡ Less → ⊥
  never_both key x y less back = never_below_itself key x x refl ((on_total key order.total).trans x y x less back)

  -- ---- sorted

  below_all : {X : Type 0} (key : X → K) (x y : X) (xs : List X) → by_key cmp key x y ≡ Less → IsBelowOn cmp key y xs → IsBelowOn cmp key x xs
  below_all key x y [] less all = tt
  below_all key x y (z ∷ xs) less all = ((on_total key order.total).trans x y z less all.0, below_all key x y xs less all.1)

  below_with : {X : Type 0} (key : X → K) (x new : X) (xs : List X) → IsBelowOn cmp key x xs → by_key cmp key x new ≡ Less → IsBelowOn cmp key x (insert_key (by_key cmp key) xs new)
  below_with key x new [] all less = (less, tt)
  below_with key x new (z ∷ xs) all less =
      elim (by_key cmp key new z) as (λ o. IsBelowOn cmp key x (match_ordering o (new ∷ z ∷ xs) (z ∷ xs) (z ∷ insert_key (by_key cmp key) xs new))) [
        | Less ↦ (less, all)
        | Equal ↦ all
        | Greater ↦ (all.0, below_with key x new xs all.1 less)
      ]

  rises_with : {X : Type 0} (key : X → K) (xs : List X) (new : X) → RisesOn cmp key xs → RisesOn cmp key (insert_key (by_key cmp key) xs new)
  rises_with key [] new rises = (tt, tt)
  rises_with key (z ∷ xs) new rises =
      elim (by_key cmp key new z) as (λ o. by_key cmp key new z ≡ o → RisesOn cmp key (match_ordering o (new ∷ z ∷ xs) (z ∷ xs) (z ∷ insert_key (by_key cmp key) xs new))) [
        | Less ↦ λ less. ((less, below_all key new z xs less rises.0), rises)
        | Equal ↦ λ _. rises
        | Greater ↦ λ greater. (below_with key z new xs rises.0 ((on_total key order.total).antisymm z new ∙ ap ordering_reverse greater), rises_with key xs new rises.1)
      ] refl

  pub RisesOn-sorted_on : {X : Type 0} (key : X → K) (xs : List X) → RisesOn cmp key (sorted_on cmp key xs)
  unfolding sorted_on
  RisesOn-sorted_on key [] = tt
  RisesOn-sorted_on key (x ∷ xs) = rises_with key (sorted_on cmp key xs) x (RisesOn-sorted_on key xs)

  -- ---- members

  with_only : {X : Type 0} (key : X → K) (xs : List X) (new y : X) → In y (insert_key (by_key cmp key) xs new) → (new ≡ y) ⊎ In y xs
  with_only key [] new y here = here
  with_only key (z ∷ xs) new y here =
      elim (by_key cmp key new z) as (λ o. In y (match_ordering o (new ∷ z ∷ xs) (z ∷ xs) (z ∷ insert_key (by_key cmp key) xs new)) → (new ≡ y) ⊎ In y (z ∷ xs)) [
        | Less ↦ λ found. found
        | Equal ↦ λ found. inr found
        | Greater ↦ λ found. ⊎_elim (λ is. inr (inl is)) (λ later. ⊎_elim (λ is. inl is) (λ old. inr (inr old)) (with_only key xs new y later)) found
      ] here

  with_old : {X : Type 0} (key : X → K) (xs : List X) (new y : X) → In y xs → In y (insert_key (by_key cmp key) xs new)
  with_old key [] new y here = absurd here
  with_old key (z ∷ xs) new y here =
      elim (by_key cmp key new z) as (λ o. In y (match_ordering o (new ∷ z ∷ xs) (z ∷ xs) (z ∷ insert_key (by_key cmp key) xs new))) [
        | Less ↦ inr here
        | Equal ↦ here
        | Greater ↦ ⊎_elim (λ is. inl is) (λ later. inr (with_old key xs new y later)) here
      ]

  -- an item whose key the others do not have unless they are it
  with_new : {X : Type 0} (key : X → K) (xs : List X) (new : X) → ((y : X) → In y xs → key new ≡ key y → new ≡ y) → In new (insert_key (by_key cmp key) xs new)
  with_new key [] new told = inl refl
  with_new key (z ∷ xs) new told =
      elim (by_key cmp key new z) as (λ o. by_key cmp key new z ≡ o → In new (match_ordering o (new ∷ z ∷ xs) (z ∷ xs) (z ∷ insert_key (by_key cmp key) xs new))) [
        | Less ↦ λ _. inl refl
        | Equal ↦ λ same. inl (sym (told z (inl refl) (order.ties (key new) (key z) same)))
        | Greater ↦ λ _. inr (with_new key xs new (λ y later. told y (inr later)))
      ] refl

  pub sorted_on-only : {X : Type 0} (key : X → K) (xs : List X) (y : X) → In y (sorted_on cmp key xs) → In y xs
  unfolding sorted_on
  sorted_on-only key [] y here = here
  sorted_on-only key (x ∷ xs) y here =
      ⊎_elim (λ is. inl is) (λ later. inr (sorted_on-only key xs y later)) (with_only key (sorted_on cmp key xs) x y here)

  pub sorted_on-each : {X : Type 0} (key : X → K) (xs : List X) → AreTold key xs → (y : X) → In y xs → In y (sorted_on cmp key xs)
  unfolding sorted_on
  sorted_on-each key [] told y here = here
  sorted_on-each key (x ∷ xs) told y here =
      ⊎_elim
      (λ is. subst (λ z. In z (insert_key (by_key cmp key) (sorted_on cmp key xs) x)) is (with_new key (sorted_on cmp key xs) x (λ z found. told x z (inl refl) (inr (sorted_on-only key xs z found)))))
      (λ later. with_old key (sorted_on cmp key xs) x y (sorted_on-each key xs (λ a b p q. told a b (inr p) (inr q)) y later))
      here

  -- ---- one list for each set

  is_below : {X : Type 0} (key : X → K) (x : X) (xs : List X) (y : X) → IsBelowOn cmp key x xs → In y xs → by_key cmp key x y ≡ Less
  is_below key x [] y all here = absurd here
  is_below key x (z ∷ xs) y all (inl is) = ap (by_key cmp key x) (sym is) ∙ all.0
  is_below key x (z ∷ xs) y all (inr later) = is_below key x xs y all.1 later

  -- rising items are told by their texts
  pub AreTold-risesOn : {X : Type 0} (key : X → K) (xs : List X) → RisesOn cmp key xs → AreTold key xs
  AreTold-risesOn key [] rises x y here there same = absurd here
  AreTold-risesOn key (z ∷ xs) rises x y (inl is) (inl also) same = sym is ∙ also
  AreTold-risesOn key (z ∷ xs) rises x y (inl is) (inr later) same =
      let less = is_below key z xs y rises.0 later in
      absurd (never_below_itself (λ t. t) (key z) (key y) (ap key is ∙ same) less)
  AreTold-risesOn key (z ∷ xs) rises x y (inr later) (inl is) same =
      let less = is_below key z xs x rises.0 later in
      absurd (never_below_itself (λ t. t) (key z) (key x) (ap key is ∙ sym same) less)
  AreTold-risesOn key (z ∷ xs) rises x y (inr one) (inr other) same = AreTold-risesOn key xs rises.1 x y one other same

  same_first : {X : Type 0} (key : X → K) (x y : X) (xs ys : List X) → IsBelowOn cmp key x xs → IsBelowOn cmp key y ys → In x (y ∷ ys) → In y (x ∷ xs) → x ≡ y
  same_first key x y xs ys below also (inl is) there = sym is
  same_first key x y xs ys below also (inr later) (inl is) = is
  same_first key x y xs ys below also (inr later) (inr more) = absurd (never_both key x y (is_below key x xs y below more) (is_below key y ys x also later))

  rest_of : {X : Type 0} (key : X → K) (x y : X) (xs ys : List X) → x ≡ y → IsBelowOn cmp key x xs → ((z : X) → In z (x ∷ xs) → In z (y ∷ ys)) → (z : X) → In z xs → In z ys
  rest_of key x y xs ys is below each z here =
      ⊎_elim
      (λ first. absurd (never_below_itself key x z (is ∙ first) (is_below key x xs z below here)))
      (λ later. later)
      (each z (inr here))

  pub same_risingOn : {X : Type 0} (key : X → K) (xs ys : List X) → RisesOn cmp key xs → RisesOn cmp key ys → SameMembers xs ys → xs ≡ ys
  same_risingOn key [] [] rises also same = refl
  same_risingOn key [] (y ∷ ys) rises also same = absurd ((same y).1 (inl refl))
  same_risingOn key (x ∷ xs) [] rises also same = absurd ((same x).0 (inl refl))
  same_risingOn key (x ∷ xs) (y ∷ ys) rises also same =
      let first = same_first key x y xs ys rises.0 also.0 ((same x).0 (inl refl)) ((same y).1 (inl refl)) in
      let rest = same_risingOn key xs ys rises.1 also.1 (λ z. (
        rest_of key x y xs ys first rises.0 (λ w. (same w).0) z,
        rest_of key y x ys xs (sym first) also.0 (λ w. (same w).1) z,
      )) in
      λ i. first i ∷ rest i

  -- items with the members of a rising list, sorted, are that list
  pub sorted_on-is : {X : Type 0} (key : X → K) (xs rising : List X) → RisesOn cmp key rising → SameMembers xs rising → sorted_on cmp key xs ≡ rising
  sorted_on-is key xs rising rises same =
      same_risingOn key (sorted_on cmp key xs) rising (RisesOn-sorted_on key xs) rises (λ x. (
        (λ here. (same x).0 (sorted_on-only key xs x here)),
        (λ here. sorted_on-each key xs (λ a b p q. AreTold-risesOn key rising rises a b ((same a).0 p) ((same b).0 q)) x ((same x).1 here)),
      ))
