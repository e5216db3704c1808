-- What is among the elements of a list, by recursion.
use Rattle.std.proofs.Common.{◌≡◌, ◌⊎◌, inl, inr, Bool, true, false, ℕ, ◌+◌, ◌<◌, List, [], ◌∷◌, ◌++◌, add-one, ap, arith, cond, drop, drop-cons, get_or, length, map, refl, subst, sym, ⊎_elim, ◌∙◌}
use Rattle.std.specs.Prelude.{All, Contains, filter}
use Rattle.std.proofs.lemmas.List.Elements.{All-cons, All-contains, All-nil, All-weaker, Contains-append_right}

-- the element is one of these
abbrev pub Among : {X : Type 0} → X → List X → Type 0
Among one [] = ⊥
Among one (other ∷ others) = (other ≡ one) ⊎ Among one others

all_among : {X : Type 0} (xs : List X) → All (λ x. Among x xs) xs
all_among [] = All-nil (λ x. Among x [])
all_among (y ∷ ys) =
    All-cons (λ x. Among x (y ∷ ys)) y ys (inl refl) (All-weaker (λ x. Among x ys) (λ x. Among x (y ∷ ys)) (λ x among. inr among) ys (all_among ys))

pub among-from_contains : {X : Type 0} (xs : List X) (x : X) → Contains xs x → Among x xs
among-from_contains xs x contains = All-contains (λ y. Among y xs) xs x (all_among xs) contains

pub contains-from_among : {X : Type 0} (xs : List X) (x : X) → Among x xs → Contains xs x
contains-from_among [] x among = absurd among
contains-from_among (y ∷ ys) x (inl here) = (0, omega arith, here)
contains-from_among (y ∷ ys) x (inr later) = Contains-append_right (y ∷ []) ys x (contains-from_among ys x later)

-- an element that passes a test, and its image
pub record IsImage (X Y : Type 0) (test : X → Bool) (f : X → Y) (xs : List X) (y : Y) : Type 0 where
  pub source : X
  pub among : Among source xs
  pub passes : test source ≡ true
  pub image : f source ≡ y

image_later : {X Y : Type 0} (test : X → Bool) (f : X → Y) (x : X) (xs : List X) (y : Y) → IsImage X Y test f xs y → IsImage X Y test f (x ∷ xs) y
image_later test f x xs y is = record { source = is.source; among = inr is.among; passes = is.passes; image = is.image }

image_at : {X Y : Type 0} (test : X → Bool) (f : X → Y) (x : X) (xs : List X) (y : Y) (b : Bool) → test x ≡ b → (Among y (map f (filter test xs)) → IsImage X Y test f xs y) → Among y (map f (cond b (x ∷ filter test xs) (filter test xs))) → IsImage X Y test f (x ∷ xs) y
image_at test f x xs y true passes later (inl here) = record { source = x; among = inl refl; passes = passes; image = here }
image_at test f x xs y true passes later (inr among) = image_later test f x xs y (later among)
image_at test f x xs y false fails later among = image_later test f x xs y (later among)

-- what is among the images of those that pass is one
pub image-from_among : {X Y : Type 0} (test : X → Bool) (f : X → Y) (xs : List X) (y : Y) → Among y (map f (filter test xs)) → IsImage X Y test f xs y
image-from_among test f [] y among = absurd among
image-from_among test f (x ∷ xs) y among = image_at test f x xs y (test x) refl (image-from_among test f xs y) among

among_later : {X Y : Type 0} (f : X → Y) (x : X) (xs : List X) (y : Y) (b : Bool) → Among y (map f xs) → Among y (map f (cond b (x ∷ xs) xs))
among_later f x xs y true among = inr among
among_later f x xs y false among = among

-- and each is among them
pub among-from_image : {X Y : Type 0} (test : X → Bool) (f : X → Y) (xs : List X) (x : X) → Among x xs → test x ≡ true → Among (f x) (map f (filter test xs))
among-from_image test f [] x among passes = absurd among
among-from_image test f (y ∷ ys) x (inl here) passes =
    let here_passes : test y ≡ true = ap test here ∙ passes in
    subst (λ b. Among (f x) (map f (cond b (y ∷ filter test ys) (filter test ys)))) (sym here_passes) (inl (ap f here))
among-from_image test f (y ∷ ys) x (inr later) passes =
    among_later f y (filter test ys) (f x) (test y) (among-from_image test f ys x later passes)

pub among-append_left : {X : Type 0} (xs ys : List X) (x : X) → Among x xs → Among x (xs ++ ys)
among-append_left [] ys x among = absurd among
among-append_left (y ∷ xs) ys x (inl here) = inl here
among-append_left (y ∷ xs) ys x (inr later) = inr (among-append_left xs ys x later)

pub among-append_right : {X : Type 0} (xs ys : List X) (x : X) → Among x ys → Among x (xs ++ ys)
among-append_right [] ys x among = among
among-append_right (y ∷ xs) ys x among = inr (among-append_right xs ys x among)

pub among-append_cases : {X : Type 0} (xs ys : List X) (x : X) → Among x (xs ++ ys) → Among x xs ⊎ Among x ys
among-append_cases [] ys x among = inr among
among-append_cases (y ∷ xs) ys x (inl here) = inl (inl here)
among-append_cases (y ∷ xs) ys x (inr later) = ⊎_elim (λ first. inl (inr first)) (λ second. inr second) (among-append_cases xs ys x later)

-- what is left begins with the item at this place
pub left_is : {X : Type 0} (xs : List X) (at : ℕ) (x : X) → at < length xs → x ≡ get_or xs at x → drop at xs ≡ x ∷ drop (at + 1) xs
left_is xs at x within is = drop-cons xs at x within ∙ (λ i. sym is i ∷ drop (sym (add-one at) i) xs)
