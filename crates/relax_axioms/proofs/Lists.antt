-- Lists and tests: the first items and one more, and what some item of a list passes.
use Rattle.std.proofs.Common.{◌≡◌, ℕ, ◌+◌, Bool, true, false, not, ◌&&◌, ◌||◌, cond, List, [], ◌∷◌, ◌++◌, Some, slice_get, take, inl, inr, ⊎_elim, refl, sym, ap, subst, ◌∙◌, true≢false}
use Rattle.std.specs.Prelude.{filter}
use Rattle.std.specs.List.{list_any}
use Rattle.std.proofs.lemmas.List.{take_more}
use Rattle.std.proofs.lemmas.List.Folds.{list_any-append}
use Rattle.std.proofs.lemmas.Option.{get_or_from_slice_get, slice_get_within}
use Rattle.owl_axioms.proofs.Members.{In}

pub take_at : {X : Type 0} (xs : List X) (i : ℕ) (x : X) → slice_get xs i ≡ Some x → take (i + 1) xs ≡ take i xs ++ x ∷ []
take_at xs i x at = take_more xs i x (slice_get_within xs i x at) ∙ ap (λ y. take i xs ++ y ∷ []) (get_or_from_slice_get xs i x x at)

pub or_false : (x : Bool) → x ≡ (x || false)
or_false true = refl
or_false false = refl

pub any_push : {X : Type 0} (p : X → Bool) (xs : List X) (x : X) → list_any p (xs ++ x ∷ []) ≡ (list_any p xs || p x)
any_push p xs x = list_any-append p xs (x ∷ []) ∙ ap (λ b. list_any p xs || b) (sym (or_false (p x)))

pub any_next : {X : Type 0} (p : X → Bool) (xs : List X) (i : ℕ) (x : X) → slice_get xs i ≡ Some x → list_any p (take (i + 1) xs) ≡ (list_any p (take i xs) || p x)
any_next p xs i x at = ap (list_any p) (take_at xs i x at) ∙ any_push p (take i xs) x

-- a test that some item passes, and one that passes it
pub any_in : {X : Type 0} (p : X → Bool) (x : X) (xs : List X) → In x xs → p x ≡ true → list_any p xs ≡ true
any_in p x [] here passes = absurd here
any_in p x (y ∷ ys) (inl is) passes = ap (λ b. b || list_any p ys) (ap p is ∙ passes)
any_in p x (y ∷ ys) (inr later) passes = ap (λ b. p y || b) (any_in p x ys later passes) ∙ or_true (p y)
  where
    or_true : (b : Bool) → (b || true) ≡ true
    or_true true = refl
    or_true false = refl

pub from_any : {X : Type 0} (p : X → Bool) (xs : List X) → list_any p xs ≡ true → (x : X) × In x xs × (p x ≡ true)
from_any {X = X} p [] h = absurd (true≢false (sym h))
from_any {X = X} p (y ∷ ys) h =
    elim (p y) as (λ b. p y ≡ b → (b || list_any p ys) ≡ true → (x : X) × In x (y ∷ ys) × (p x ≡ true)) [
      | true ↦ λ is _. (y, inl refl, is)
      | false ↦ λ _ rest. let found = from_any p ys rest in (found.0, inr found.1, found.2)
    ] refl h

-- what a filter leaves
pub in_filter : {X : Type 0} (p : X → Bool) (x : X) (xs : List X) → In x xs → p x ≡ true → In x (filter p xs)
in_filter p x [] here passes = absurd here
in_filter p x (y ∷ ys) (inl is) passes = subst (λ b. In x (cond b (y ∷ filter p ys) (filter p ys))) (sym (ap p is ∙ passes)) (inl is)
in_filter p x (y ∷ ys) (inr later) passes =
    elim (p y) as (λ b. In x (cond b (y ∷ filter p ys) (filter p ys))) [
      | true ↦ inr (in_filter p x ys later passes)
      | false ↦ in_filter p x ys later passes
    ]

pub from_filter : {X : Type 0} (p : X → Bool) (x : X) (xs : List X) → In x (filter p xs) → In x xs × (p x ≡ true)
from_filter p x [] here = absurd here
from_filter p x (y ∷ ys) here =
    elim (p y) as (λ b. p y ≡ b → In x (cond b (y ∷ filter p ys) (filter p ys)) → In x (y ∷ ys) × (p x ≡ true)) [
      | true ↦ λ passes there. ⊎_elim (λ is. (inl is, sym (ap p is) ∙ passes)) (λ later. let rest = from_filter p x ys later in (inr rest.0, rest.1)) there
      | false ↦ λ _ there. let rest = from_filter p x ys there in (inr rest.0, rest.1)
    ] refl here

-- two tests that answer alike on a list leave the same of it
pub filter_alike : {X : Type 0} (p q : X → Bool) (xs : List X) → ((x : X) → In x xs → p x ≡ q x) → filter p xs ≡ filter q xs
filter_alike p q [] alike = refl
filter_alike p q (x ∷ xs) alike = λ i. cond (alike x (inl refl) i) (x ∷ filter_alike p q xs (λ y later. alike y (inr later)) i) (filter_alike p q xs (λ y later. alike y (inr later)) i)

pub filter_both : {X : Type 0} (p q : X → Bool) (xs : List X) → filter p (filter q xs) ≡ filter (λ x. q x && p x) xs
filter_both p q [] = refl
filter_both p q (x ∷ xs) =
    elim (q x) as (λ b. filter p (cond b (x ∷ filter q xs) (filter q xs)) ≡ cond (b && p x) (x ∷ filter (λ y. q y && p y) xs) (filter (λ y. q y && p y) xs)) [
      | true ↦ ap (λ rest. cond (p x) (x ∷ rest) rest) (filter_both p q xs)
      | false ↦ filter_both p q xs
    ]

pub filter_all : {X : Type 0} (xs : List X) → filter (λ x. true) xs ≡ xs
filter_all [] = refl
filter_all (x ∷ xs) = ap (λ rest. x ∷ rest) (filter_all xs)

pub within : (x y z : Bool) → ((x && y) || (x && z)) ≡ (x && (y || z))
within true y z = refl
within false y z = refl

pub not_or : (x y : Bool) → not (x || y) ≡ (not y && not x)
not_or true true = refl
not_or true false = refl
not_or false true = refl
not_or false false = refl

pub both_true : (x y : Bool) → (x && y) ≡ true → (x ≡ true) × (y ≡ true)
both_true true y h = (refl, h)
both_true false y h = absurd (true≢false (sym h))

pub not_is : (x : Bool) → not x ≡ true → x ≡ false
not_is true h = absurd (true≢false (sym h))
not_is false h = refl

pub is_not : (x : Bool) → (x ≡ true → ⊥) → not x ≡ true
is_not true h = absurd (h refl)
is_not false h = refl
