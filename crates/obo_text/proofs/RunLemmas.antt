-- Runs of items, each below those behind it, rise as a whole.
use Rattle.std.proofs.Common.{◌≡◌, inl, inr, ℕ, List, [], ◌∷◌, ◌++◌, refl}
use Rattle.std.specs.List.{flat_map}
use Rattle.std.specs.declared.cmp.Ordering.TheVariants.{Less}
use Rattle.text_sets.specs.Sets.{In}
use Rattle.text_sets.specs.Sorted.{IsBelowOn, RisesOn, by_key, texts_cmp}

below_all_of : {X : Type 0} (key : X → List (List ℕ)) (x : X) (ys : List X) → ((y : X) → In y ys → by_key texts_cmp key x y ≡ Less) → IsBelowOn texts_cmp key x ys
below_all_of key x [] each = tt
below_all_of key x (y ∷ ys) each = (each y (inl refl), below_all_of key x ys (λ z later. each z (inr later)))

below_append : {X : Type 0} (key : X → List (List ℕ)) (x : X) (xs ys : List X) → IsBelowOn texts_cmp key x xs → IsBelowOn texts_cmp key x ys → IsBelowOn texts_cmp key x (xs ++ ys)
below_append key x [] ys all more = more
below_append key x (z ∷ xs) ys all more = (all.0, below_append key x xs ys all.1 more)

rises_append : {X : Type 0} (key : X → List (List ℕ)) (xs ys : List X) → RisesOn texts_cmp key xs → RisesOn texts_cmp key ys → ((x y : X) → In x xs → In y ys → by_key texts_cmp key x y ≡ Less) → RisesOn texts_cmp key (xs ++ ys)
rises_append key [] ys rises more apart = more
rises_append key (x ∷ xs) ys rises more apart =
    (below_append key x xs ys rises.0 (below_all_of key x ys (λ y here. apart x y (inl refl) here)), rises_append key xs ys rises.1 more (λ z y later here. apart z y (inr later) here))

module _ {X H : Type 0} (key : X → List (List ℕ)) (run : H → List X) where
  -- each run is below all runs behind it
  abbrev pub RunsRise : List H → Type 0
  RunsRise [] = Unit {0}
  RunsRise (h ∷ hs) = ((x y : X) → In x (run h) → In y (flat_map run hs) → by_key texts_cmp key x y ≡ Less) × RunsRise hs

  pub runs_rise : (hs : List H) → ((h : H) → In h hs → RisesOn texts_cmp key (run h)) → RunsRise hs → RisesOn texts_cmp key (flat_map run hs)
  runs_rise [] each apart = tt
  runs_rise (h ∷ hs) each apart =
      rises_append key (run h) (flat_map run hs) (each h (inl refl)) (runs_rise hs (λ g later. each g (inr later)) apart.1) apart.0
