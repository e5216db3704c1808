-- What is in a list: by recursion on it, as proofs by cases want it.
use Rattle.std.proofs.Common.{◌≡◌, ◌⊎◌, ◌<◌, ℕ, zero, suc, Bool, true, List, [], ◌∷◌, inl, inr, length, get_or, map, refl, sym, ap, ◌∙◌, arith}
use Rattle.std.specs.List.{list_all}
use Rattle.std.specs.Prelude.{Contains}
use Rattle.std.proofs.lemmas.Bool.{and_from, and_parts}

-- the item is in the list
abbrev pub In : {X : Type 0} → X → List X → Type 0
In x [] = ⊥
In x (y ∷ ys) = (y ≡ x) ⊎ In x ys

In-at : {X : Type 0} (x : X) (xs : List X) (k : ℕ) → k < length xs → get_or xs k x ≡ x → In x xs
In-at x [] k below is = absurd (omega (arith, below))
In-at x (y ∷ ys) zero below is = inl is
In-at x (y ∷ ys) (suc k) below is = inr (In-at x ys k (omega arith) is)

pub In-contains : {X : Type 0} (x : X) (xs : List X) → Contains xs x → In x xs
In-contains x xs found = In-at x xs found.0 found.1 found.2

pub Contains-in : {X : Type 0} (x : X) (xs : List X) → In x xs → Contains xs x
Contains-in x [] here = absurd here
Contains-in x (y ∷ ys) (inl is) = (0, omega arith, is)
Contains-in x (y ∷ ys) (inr later) = let found = Contains-in x ys later in (suc found.0, omega (arith, found.1), found.2)

pub In-map : {X Y : Type 0} (f : X → Y) (x : X) (xs : List X) → In x xs → In (f x) (map f xs)
In-map f x [] here = here
In-map f x (y ∷ ys) (inl is) = inl (ap f is)
In-map f x (y ∷ ys) (inr later) = inr (In-map f x ys later)

pub In-from_map : {X Y : Type 0} (f : X → Y) (y : Y) (xs : List X) → In y (map f xs) → (x : X) × In x xs × (f x ≡ y)
In-from_map f y [] here = absurd here
In-from_map f y (z ∷ xs) (inl is) = (z, inl refl, is)
In-from_map f y (z ∷ xs) (inr later) = let found = In-from_map f y xs later in (found.0, inr found.1, found.2)

-- a test of all items is one of each
pub passes : {X : Type 0} (test : X → Bool) (x : X) (xs : List X) → list_all test xs ≡ true → In x xs → test x ≡ true
passes test x [] all here = absurd here
passes test x (y ∷ ys) all (inl is) = sym (ap test is) ∙ (and_parts (test y) (list_all test ys) all).0
passes test x (y ∷ ys) all (inr later) = passes test x ys (and_parts (test y) (list_all test ys) all).1 later

pub all_pass : {X : Type 0} (test : X → Bool) (xs : List X) → ((x : X) → In x xs → test x ≡ true) → list_all test xs ≡ true
all_pass test [] each = refl
all_pass test (y ∷ ys) each = and_from (test y) (list_all test ys) (each y (inl refl)) (all_pass test ys (λ x later. each x (inr later)))
