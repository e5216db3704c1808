-- Items taken out of a list, and what options come to.
use Rattle.std.proofs.Common.{◌≡◌, ◌⊎◌, List, [], ◌∷◌, ◌++◌, Option, None, Some, map, inl, inr, ⊎_elim, refl, sym, ap, subst, ◌∙◌, true, false}
use Rattle.std.specs.Option.{IsSome, option_and_then, option_map, option_or}
use Rattle.std.proofs.lemmas.Option.{none-some, same_Some}
use Rattle.text_sets.specs.Parts.{StandsFor, Splits, Taken, each_some, first_some, take_all, take_all_more, take_one, take_one_more, taken}
use Rattle.text_sets.specs.Sets.{In}
use Rattle.text_sets.proofs.SetLemmas.{In-append, In-append_left, In-append_right}

-- ---- options taken apart

pub option_map_some : {X Y : Type 0} (f : X → Y) (o : Option X) (y : Y) → option_map f o ≡ Some y → (x : X) × (o ≡ Some x) × (f x ≡ y)
option_map_some f None y is = absurd (none-some y is)
option_map_some f (Some x) y is = (x, refl, same_Some (f x) y is)

pub option_and_then_some : {X Y : Type 0} (f : X → Option Y) (o : Option X) (y : Y) → option_and_then f o ≡ Some y → (x : X) × (o ≡ Some x) × (f x ≡ Some y)
option_and_then_some f None y is = absurd (none-some y is)
option_and_then_some f (Some x) y is = (x, refl, is)

pub option_or_some : {X : Type 0} (o other : Option X) (y : X) → option_or o other ≡ Some y → (o ≡ Some y) ⊎ (other ≡ Some y)
option_or_some None other y is = inr is
option_or_some (Some x) other y is = inl is

pub option_cases : {X : Type 0} (o : Option X) → (o ≡ None) ⊎ ((x : X) × (o ≡ Some x))
option_cases None = inl refl
option_cases (Some x) = inr (x, refl)

-- ---- the first answer

pub first_some-found : {X Y : Type 0} (f : X → Option Y) (xs : List X) (y : Y) → first_some f xs ≡ Some y → (x : X) × In x xs × (f x ≡ Some y)
first_some-found f [] y is = absurd (none-some y is)
first_some-found f (x ∷ xs) y is =
    ⊎_elim
    (λ here. (x, inl refl, here))
    (λ more. let later = first_some-found f xs y more in (later.0, inr later.1, later.2))
    (option_or_some (f x) (first_some f xs) y is)

or_right : {X : Type 0} (o other : Option X) → IsSome other → IsSome (option_or o other)
or_right None other some = some
or_right (Some x) other some = refl

or_left : {X : Type 0} (o other : Option X) → IsSome o → IsSome (option_or o other)
or_left None other some = let h : false ≡ true = some in absurd (cc)
or_left (Some x) other some = refl

pub first_some-some : {X Y : Type 0} (f : X → Option Y) (xs : List X) (x : X) → In x xs → IsSome (f x) → IsSome (first_some f xs)
first_some-some f [] x here some = absurd here
first_some-some f (z ∷ xs) x (inl is) some = or_left (f z) (first_some f xs) (subst (λ y. IsSome (f y)) (sym is) some)
first_some-some f (z ∷ xs) x (inr later) some = or_right (f z) (first_some f xs) (first_some-some f xs x later some)

-- ---- parts

pub Splits-none : {X : Type 0} (x : X) (xs taken left : List X) → Splits xs taken left → Splits (x ∷ xs) taken (x ∷ left)
Splits-none x xs taken left splits = record {
  each = λ y here. ⊎_elim (λ is. inr (inl is)) (λ later. ⊎_elim (λ one. inl one) (λ other. inr (inr other)) (splits.each y later)) here;
  own = λ y here. inr (splits.own y here);
  rest = λ y here. ⊎_elim (λ is. inl is) (λ later. inr (splits.rest y later)) here;
}

pub Splits-some : {X : Type 0} (x z : X) (xs taken left : List X) → z ≡ x → Splits xs taken left → Splits (x ∷ xs) (z ∷ taken) left
Splits-some x z xs taken left same splits = record {
  each = λ y here. ⊎_elim (λ is. inl (inl (same ∙ is))) (λ later. ⊎_elim (λ one. inl (inr one)) (λ other. inr other) (splits.each y later)) here;
  own = λ y here. ⊎_elim (λ is. inl (sym same ∙ is)) (λ later. inr (splits.own y later)) here;
  rest = λ y here. inr (splits.rest y here);
}

pub Splits-nothing : {X : Type 0} (xs : List X) → Splits xs [] xs
Splits-nothing xs = record { each = λ y here. inr here; own = λ y here. absurd here; rest = λ y here. here }

pub Splits-first : {X : Type 0} (x z : X) (xs : List X) → z ≡ x → Splits (x ∷ xs) (z ∷ []) xs
Splits-first x z xs same = Splits-some x z xs [] xs same (Splits-nothing xs)

-- what is taken from what is left
pub Splits-again : {X : Type 0} (xs one other left end : List X) → Splits xs one left → Splits left other end → Splits xs (one ++ other) end
Splits-again xs one other left end first second = record {
  each = λ y here. ⊎_elim (λ is. inl (In-append_left y one other is)) (λ more. ⊎_elim (λ is. inl (In-append_right y one other is)) (λ is. inr is) (second.each y more)) (first.each y here);
  own = λ y here. ⊎_elim (first.own y) (λ is. first.rest y (second.own y is)) (In-append y one other here);
  rest = λ y here. first.rest y (second.rest y here);
}

abbrev IsSplit : {X Y : Type 0} → (Y → X) → List X → Taken X Y → Type 0
IsSplit back xs told = Splits xs (map back told.parts) told.rest

pub take_one-splits : {X Y : Type 0} (part : X → Option Y) (back : Y → X) → StandsFor part back → (xs : List X) → Splits xs (map back (take_one part xs).parts) (take_one part xs).rest
take_one-splits part back stands [] = Splits-nothing []
take_one-splits part back stands (x ∷ xs) =
    elim (part x) as (λ o. part x ≡ o → IsSplit back (x ∷ xs) (take_one_more x xs o (take_one part xs))) [
      | None ↦ λ _. Splits-none x xs (map back (take_one part xs).parts) (take_one part xs).rest (take_one-splits part back stands xs)
      | Some y ↦ λ is. Splits-first x (back y) xs (stands x y is)
    ] refl

pub take_all-splits : {X Y : Type 0} (part : X → Option Y) (back : Y → X) → StandsFor part back → (xs : List X) → Splits xs (map back (take_all part xs).parts) (take_all part xs).rest
take_all-splits part back stands [] = Splits-nothing []
take_all-splits part back stands (x ∷ xs) =
    elim (part x) as (λ o. part x ≡ o → IsSplit back (x ∷ xs) (take_all_more x o (take_all part xs))) [
      | None ↦ λ _. Splits-none x xs (map back (take_all part xs).parts) (take_all part xs).rest (take_all-splits part back stands xs)
      | Some y ↦ λ is. Splits-some x (back y) xs (map back (take_all part xs).parts) (take_all part xs).rest (stands x y is) (take_all-splits part back stands xs)
    ] refl

pub each_some-back : {X Y : Type 0} (part : X → Option Y) (back : Y → X) → StandsFor part back → (xs : List X) (ys : List Y) → each_some part xs ≡ Some ys → map back ys ≡ xs
each_some-back part back stands [] ys is = ap (map back) (sym (same_Some [] ys is))
each_some-back part back stands (x ∷ xs) ys is =
    let first = option_and_then_some (λ y. option_map (λ more. y ∷ more) (each_some part xs)) (part x) ys is in
    let more = option_map_some (λ zs. first.0 ∷ zs) (each_some part xs) ys first.2 in
    let tail = each_some-back part back stands xs more.0 more.1 in
    ap (map back) (sym more.2) ∙ (λ i. stands x first.0 first.1 i ∷ tail i)

pub some_value : {X : Type 0} (o : Option X) → IsSome o → (x : X) × (o ≡ Some x)
some_value None some = let h : false ≡ true = some in absurd (cc)
some_value (Some x) some = (x, refl)

pub each_some-some : {X Y : Type 0} (part : X → Option Y) (xs : List X) → ((x : X) → In x xs → IsSome (part x)) → IsSome (each_some part xs)
each_some-some part [] all = refl
each_some-some part (x ∷ xs) all =
    let here = some_value (part x) (all x (inl refl)) in
    let more = some_value (each_some part xs) (each_some-some part xs (λ y later. all y (inr later))) in
    subst (λ o. IsSome (option_and_then (λ y. option_map (λ ys. y ∷ ys) (each_some part xs)) o)) (sym here.1)
    (subst (λ o. IsSome (option_map (λ ys. here.0 ∷ ys) o)) (sym more.1) refl)

-- each part is of an item, and each item has its part
pub each_some-parts : {X Y : Type 0} (part : X → Option Y) (xs : List X) (ys : List Y) → each_some part xs ≡ Some ys → (y : Y) → In y ys → (x : X) × In x xs × (part x ≡ Some y)
each_some-parts part [] ys is y here = absurd (subst (In y) (sym (same_Some [] ys is)) here)
each_some-parts part (x ∷ xs) ys is y here =
    let first = option_and_then_some (λ z. option_map (λ more. z ∷ more) (each_some part xs)) (part x) ys is in
    let more = option_map_some (λ zs. first.0 ∷ zs) (each_some part xs) ys first.2 in
    ⊎_elim
    (λ same. (x, inl refl, first.1 ∙ ap Some same))
    (λ later. let found = each_some-parts part xs more.0 more.1 y later in (found.0, inr found.1, found.2))
    (subst (In y) (sym more.2) here)

pub each_some-items : {X Y : Type 0} (part : X → Option Y) (xs : List X) (ys : List Y) → each_some part xs ≡ Some ys → (x : X) → In x xs → (y : Y) × In y ys × (part x ≡ Some y)
each_some-items part [] ys is x here = absurd here
each_some-items part (z ∷ xs) ys is x here =
    let first = option_and_then_some (λ w. option_map (λ more. w ∷ more) (each_some part xs)) (part z) ys is in
    let more = option_map_some (λ zs. first.0 ∷ zs) (each_some part xs) ys first.2 in
    ⊎_elim
    (λ same. (first.0, subst (In first.0) more.2 (inl refl), ap part (sym same) ∙ first.1))
    (λ later. let found = each_some-items part xs more.0 more.1 x later in (found.0, subst (In found.0) more.2 (inr found.1), found.2))
    here
