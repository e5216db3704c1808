-- Rows that are sorted, each once, are the sorted rows.
use Rattle.std.proofs.Common.{◌≡◌, ◌∷◌, ℕ, Bool, true, false, IsPermutation, List, [], refl, sym, subst, ◌∙◌}
use Rattle.std.specs.Cmp.{on_equiv, on_total}
use Rattle.std.specs.Cmp.Lexicographic.{lists_equiv, lists_ties, pointwise, slice_cmp, texts_ties}
use Rattle.std.specs.List.{AllByRecursion, dedup}
use Rattle.std.specs.List.Sorted.{IsSorted, IsStrictlySortedBy}
use Rattle.std.specs.Ordering.{is_eq, nat_cmp}
use Rattle.std.specs.Prelude.{nat_eq}
use Rattle.std.specs.declared.cmp.Ordering.{Ordering}
use Rattle.std.specs.declared.cmp.Ordering.TheVariants.{Equal, Greater, Less}
use Rattle.std.proofs.lemmas.Cmp.{nat_list_eq_equiv}
use Rattle.std.proofs.lemmas.List.Kept.{Any-dedup, Contains-from_dedup, IsStrictlySortedBy-dedup}
use Rattle.std.proofs.lemmas.List.Sorted.{Contains-permutation, IsPermutation-sym}
use Rattle.text_sets.specs.Sets.{AreTold, In, SameMembers}
use Rattle.text_sets.specs.Sorted.{IsBelowOn, RisesOn, by_key, sorted_on, texts_cmp}
use Rattle.text_sets.proofs.KeyLemmas.{sorted_on-is}
use Rattle.text_sets.proofs.SetLemmas.{In-from_contains, contains-from_In}
use Rattle.text_sets.proofs.SortedLemmas.{texts_order}

-- whether two items have one key
abbrev pub alike : {X : Type 0} → (X → List (List ℕ)) → X → X → Bool
alike key one other = pointwise (pointwise nat_eq) (key one) (key other)

ties : (x y : List (List ℕ)) → pointwise (pointwise nat_eq) x y ≡ is_eq (texts_cmp x y)
ties x y = lists_ties (slice_cmp nat_cmp) texts_ties x y

pub equal_is : (o : Ordering) → is_eq o ≡ true → o ≡ Equal
equal_is Less h = let no : false ≡ true = h in absurd (cc)
equal_is Equal h = refl
equal_is Greater h = let no : false ≡ true = h in absurd (cc)

module _ {X : Type 0} (key : X → List (List ℕ)) where
  is_below : (x : X) (xs : List X) → AllByRecursion (λ y. by_key texts_cmp key x y ≡ Less) xs → IsBelowOn texts_cmp key x xs
  is_below x [] all = tt
  is_below x (y ∷ ys) all = (all.0, is_below x ys all.1)

  rises_of : (xs : List X) → IsStrictlySortedBy (by_key texts_cmp key) xs → RisesOn texts_cmp key xs
  unfolding IsStrictlySortedBy
  rises_of [] strict = tt
  rises_of (x ∷ xs) strict = (is_below x xs strict.0, rises_of xs strict.1)

  same_key : (x y : X) → alike key x y ≡ true → key x ≡ key y
  same_key x y is = texts_order.ties (key x) (key y) (equal_is (by_key texts_cmp key x y) (sym (ties (key x) (key y)) ∙ is))

  pub once_is : (xs moved : List X) → IsPermutation xs moved → IsSorted (by_key texts_cmp key) moved → AreTold key xs → dedup (alike key) moved ≡ sorted_on texts_cmp key xs
  once_is xs moved perm ordered told =
      let strict = IsStrictlySortedBy-dedup (on_total key texts_order.total) (λ x y. ties (key x) (key y)) moved ordered in
      let back : (x : X) → In x (dedup (alike key) moved) → In x xs = λ x there.
      In-from_contains x xs (Contains-permutation moved xs x (IsPermutation-sym xs moved perm) (Contains-from_dedup (alike key) moved x (contains-from_In x (dedup (alike key) moved) there))) in
      let same : SameMembers xs (dedup (alike key) moved) = (λ x. (
        (λ here. (let found = Any-dedup (on_equiv key (lists_equiv nat_list_eq_equiv)) moved x (Contains-permutation xs moved x perm (contains-from_In x xs here)) in
            let there = In-from_contains found.1 (dedup (alike key) moved) (found.0, found.2, found.3) in
            subst (λ y. In y (dedup (alike key) moved)) (sym (told x found.1 here (back found.1 there) (same_key x found.1 found.4))) there)),
        (λ there. back x there),
      )) in
      sym (sorted_on-is texts_cmp texts_order key xs (dedup (alike key) moved) (rises_of (dedup (alike key) moved) strict) same)
