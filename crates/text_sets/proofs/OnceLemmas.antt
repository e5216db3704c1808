-- Items that are sorted by a key, and then freed of repeats, are the items sorted by it.
use Rattle.std.proofs.Common.{◌≡◌, ◌∷◌, ℕ, Bool, true, false, IsPermutation, List, [], map, inl, inr, refl, sym, ap, subst, ◌∙◌}
use Rattle.std.specs.Cmp.{on_equiv, on_total}
use Rattle.std.specs.Cmp.Lexicographic.{pointwise, texts_ties}
use Rattle.std.specs.List.{AllByRecursion, dedup}
use Rattle.std.specs.List.Sorted.{IsSorted, IsStrictlySortedBy}
use Rattle.std.specs.Ordering.{is_eq}
use Rattle.std.specs.Prelude.{nat_eq}
use Rattle.std.specs.declared.cmp.Ordering.{Ordering}
use Rattle.std.specs.declared.cmp.Ordering.TheVariants.{Equal, Greater, Less}
use Rattle.std.proofs.lemmas.Cmp.{nat_list_cmp_total, nat_list_eq_equiv}
use Rattle.std.proofs.lemmas.List.Kept.{Any-dedup, Contains-from_dedup, IsStrictlySortedBy-dedup}
use Rattle.std.proofs.lemmas.List.Sorted.{Contains-permutation, IsPermutation-sym}
use Rattle.text_sets.specs.Sets.{AreTold, In, SameMembers}
use Rattle.text_sets.specs.Sorted.{IsBelow, Rises, by_text, sorted_by, text_cmp}
use Rattle.text_sets.proofs.SetLemmas.{In-from_contains, In-from_map, In-map, contains-from_In}
use Rattle.text_sets.proofs.SortedLemmas.{sorted_by-is, text_order}

-- whether two items have one text
abbrev alike : {X : Type 0} → (X → List ℕ) → X → X → Bool
alike text one other = pointwise nat_eq (text one) (text other)

equal_is : (o : Ordering) → is_eq o ≡ true → o ≡ Equal
equal_is Less h = let no : false ≡ true = h in absurd (cc)
equal_is Equal h = refl
equal_is Greater h = let no : false ≡ true = h in absurd (cc)

module _ {X : Type 0} (text : X → List ℕ) where
  is_below : (x : X) (xs : List X) → AllByRecursion (λ y. by_text text x y ≡ Less) xs → IsBelow text x xs
  is_below x [] all = tt
  is_below x (y ∷ ys) all = (all.0, is_below x ys all.1)

  rises_of : (xs : List X) → IsStrictlySortedBy (by_text text) xs → Rises text xs
  unfolding IsStrictlySortedBy
  rises_of [] strict = tt
  rises_of (x ∷ xs) strict = (is_below x xs strict.0, rises_of xs strict.1)

  same_text : (x y : X) → alike text x y ≡ true → text x ≡ text y
  same_text x y is = text_order.ties (text x) (text y) (equal_is (by_text text x y) (sym (texts_ties (text x) (text y)) ∙ is))

  -- what is left when sorted items are freed of repeats: each is one of the items, and each item has one with its text
  left_is_one : (xs moved : List X) → IsPermutation xs moved → (x : X) → In x (dedup (alike text) moved) → In x xs
  left_is_one xs moved perm x there =
      In-from_contains x xs (Contains-permutation moved xs x (IsPermutation-sym xs moved perm) (Contains-from_dedup (alike text) moved x (contains-from_In x (dedup (alike text) moved) there)))

  one_is_left : (xs moved : List X) → IsPermutation xs moved → (x : X) → In x xs → (y : X) × In y (dedup (alike text) moved) × (text x ≡ text y)
  one_is_left xs moved perm x here =
      let found = Any-dedup (on_equiv text nat_list_eq_equiv) moved x (Contains-permutation xs moved x perm (contains-from_In x xs here)) in
      (found.1, In-from_contains found.1 (dedup (alike text) moved) (found.0, found.2, found.3), same_text x found.1 found.4)

  rising_left : (moved : List X) → IsSorted (by_text text) moved → Rises text (dedup (alike text) moved)
  rising_left moved ordered =
      rises_of (dedup (alike text) moved) (IsStrictlySortedBy-dedup (on_total text nat_list_cmp_total) (λ x y. texts_ties (text x) (text y)) moved ordered)

-- ---- items beside their texts

-- the first item of a list, or another
abbrev head_or : {X : Type 0} → X → List X → X
head_or d [] = d
head_or d (x ∷ xs) = x

-- the items behind the first
abbrev tail_of : {X : Type 0} → List X → List X
tail_of [] = []
tail_of (x ∷ xs) = xs

heads_same : {X : Type 0} (x y : X) (xs ys : List X) → x ∷ xs ≡ y ∷ ys → x ≡ y
heads_same x y xs ys same = ap (head_or x) same

tails_same : {X : Type 0} (x y : X) (xs ys : List X) → x ∷ xs ≡ y ∷ ys → xs ≡ ys
tails_same x y xs ys same = ap tail_of same

module _ {X Y : Type 0} (key : X → List ℕ) (item : X → Y) (text : Y → List ℕ) where
  keyed_at : (xs : List X) → map key xs ≡ map text (map item xs) → (x : X) → In x xs → key x ≡ text (item x)
  keyed_at [] keyed x here = absurd here
  keyed_at (z ∷ xs) keyed x (inl is) = subst (λ y. key y ≡ text (item y)) is (heads_same (key z) (text (item z)) (map key xs) (map text (map item xs)) keyed)
  keyed_at (z ∷ xs) keyed x (inr later) = keyed_at xs (tails_same (key z) (text (item z)) (map key xs) (map text (map item xs)) keyed) x later

  below_items : (x : X) (xs : List X) → key x ≡ text (item x) → ((y : X) → In y xs → key y ≡ text (item y)) → IsBelow key x xs → IsBelow text (item x) (map item xs)
  below_items x [] mine each below = tt
  below_items x (y ∷ xs) mine each below =
      (subst (λ t. text_cmp t (text (item y)) ≡ Less) mine (subst (λ t. text_cmp (key x) t ≡ Less) (each y (inl refl)) below.0), below_items x xs mine (λ z later. each z (inr later)) below.1)

  rising_items : (xs : List X) → ((y : X) → In y xs → key y ≡ text (item y)) → Rises key xs → Rises text (map item xs)
  rising_items [] each rises = tt
  rising_items (x ∷ xs) each rises =
      (below_items x xs (each x (inl refl)) (λ y later. each y (inr later)) rises.0, rising_items xs (λ y later. each y (inr later)) rises.1)

  pub sorted_once_is : (xs moved : List X) → IsPermutation xs moved → IsSorted (by_text key) moved → map key xs ≡ map text (map item xs) → AreTold text (map item xs) → map item (dedup (alike key) moved) ≡ sorted_by text (map item xs)
  sorted_once_is xs moved perm ordered keyed told =
      let left = dedup (alike key) moved in
      let own = left_is_one key xs moved perm in
      let each : (y : X) → In y left → key y ≡ text (item y) = λ y there. keyed_at xs keyed y (own y there) in
      let same : SameMembers (map item xs) (map item left) = (λ y. (
        (λ here.
            let x = In-from_map item y xs here in
            let found = one_is_left key xs moved perm x.0 x.1 in
            let mine = own found.0 found.1 in
            let alike_texts = sym (keyed_at xs keyed x.0 x.1) ∙ found.2 ∙ keyed_at xs keyed found.0 mine in
            let is = told (item x.0) (item found.0) (In-map item x.0 xs x.1) (In-map item found.0 xs mine) alike_texts in
            subst (λ z. In z (map item left)) (sym is ∙ x.2) (In-map item found.0 left found.1)),
        (λ there. let x = In-from_map item y left there in subst (λ z. In z (map item xs)) x.2 (In-map item x.0 xs (own x.0 x.1))),
      )) in
      sym (sorted_by-is text (map item xs) (map item left) (rising_items left each (rising_left key moved ordered)) same)
