-- Places of a list.
use Rattle.std.proofs.Common.{◌≡◌, ◌⊎◌, ℕ, zero, suc, List, [], ◌∷◌, ◌++◌, None, Some, inl, inr, ⊎_elim, length, slice_get, refl, ap}
use Rattle.text_sets.specs.Sets.{In}

none_is_some : {X : Type 0} (x : X) → None ≡ Some x → ⊥
none_is_some x e = cc

pub some_is : {X : Type 0} (x y : X) → Some x ≡ Some y → x ≡ y
some_is x y e = cc

-- what stands at a place is in the list
pub In-place : {X : Type 0} (xs : List X) (place : ℕ) (x : X) → slice_get xs place ≡ Some x → In x xs
In-place [] place x there = none_is_some x there
In-place (y ∷ ys) zero x there = inl (some_is y x there)
In-place (y ∷ ys) (suc place) x there = inr (In-place ys place x there)

-- what is in the list stands at a place
pub place_of : {X : Type 0} (xs : List X) (x : X) → In x xs → (place : ℕ) × (slice_get xs place ≡ Some x)
place_of [] x in_list = absurd in_list
place_of (y ∷ ys) x in_list =
    ⊎_elim
    (λ is. (zero, ap Some is))
    (λ later. let place = place_of ys x later in (suc place.0, place.1))
    in_list

-- a list with one item more behind it
pub place-before : {X : Type 0} (xs : List X) (y : X) (place : ℕ) (x : X) → slice_get xs place ≡ Some x → slice_get (xs ++ y ∷ []) place ≡ Some x
place-before [] y place x there = absurd (none_is_some x there)
place-before (z ∷ zs) y zero x there = there
place-before (z ∷ zs) y (suc place) x there = place-before zs y place x there

pub place-last : {X : Type 0} (xs : List X) (y : X) → slice_get (xs ++ y ∷ []) (length xs) ≡ Some y
place-last [] y = refl
place-last (z ∷ zs) y = place-last zs y

pub place-cases : {X : Type 0} (xs : List X) (y : X) (place : ℕ) (x : X) → slice_get (xs ++ y ∷ []) place ≡ Some x → (slice_get xs place ≡ Some x) ⊎ ((place ≡ length xs) × (y ≡ x))
place-cases [] y zero x there = inr (refl, some_is y x there)
place-cases [] y (suc place) x there = absurd (none_is_some x there)
place-cases (z ∷ zs) y zero x there = inl there
place-cases (z ∷ zs) y (suc place) x there =
    ⊎_elim (λ before. inl before) (λ last. inr (ap suc last.0, last.1)) (place-cases zs y place x there)
