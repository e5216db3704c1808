-- Members of lists that are joined, mapped, filtered and put together.
use Rattle.std.proofs.Common.{◌≡◌, ◌⊎◌, arith, inl, inr, ⊎_elim, Bool, true, false, cond, List, [], ◌∷◌, ◌++◌, Option, None, Some, map, refl, sym, ap, subst, ◌∙◌}
use Rattle.std.specs.List.{cons_option, filter_map, flat_map}
use Rattle.std.specs.Prelude.{All, Contains, filter}
use Rattle.std.proofs.lemmas.List.Elements.{All-cons, All-contains, All-nil, All-weaker, Contains-append_right}
use Rattle.text_sets.specs.Sets.{In, SameMembers}

pub In-append_left : {X : Type 0} (x : X) (xs ys : List X) → In x xs → In x (xs ++ ys)
In-append_left x [] ys here = absurd here
In-append_left x (z ∷ xs) ys (inl is) = inl is
In-append_left x (z ∷ xs) ys (inr later) = inr (In-append_left x xs ys later)

pub In-append_right : {X : Type 0} (x : X) (xs ys : List X) → In x ys → In x (xs ++ ys)
In-append_right x [] ys here = here
In-append_right x (z ∷ xs) ys here = inr (In-append_right x xs ys here)

pub In-append : {X : Type 0} (x : X) (xs ys : List X) → In x (xs ++ ys) → In x xs ⊎ In x ys
In-append x [] ys here = inr here
In-append x (z ∷ xs) ys (inl is) = inl (inl is)
In-append x (z ∷ xs) ys (inr later) = ⊎_elim (λ a. inl (inr a)) (λ b. inr b) (In-append x xs ys later)

pub In-map : {X Y : Type 0} (f : X → Y) (x : X) (xs : List X) → In x xs → In (f x) (map f xs)
In-map f x [] here = absurd here
In-map f x (z ∷ xs) (inl is) = inl (ap f is)
In-map f x (z ∷ xs) (inr later) = inr (In-map f x xs later)

pub In-from_map : {X Y : Type 0} (f : X → Y) (y : Y) (xs : List X) → In y (map f xs) → (x : X) × In x xs × (f x ≡ y)
In-from_map f y [] here = absurd here
In-from_map f y (z ∷ xs) (inl is) = (z, inl refl, is)
In-from_map f y (z ∷ xs) (inr later) = let found = In-from_map f y xs later in (found.0, inr found.1, found.2)

pub In-flat_map : {C A : Type 0} (spell : A → List C) (c : C) (xs : List A) (a : A) → In a xs → In c (spell a) → In c (flat_map spell xs)
In-flat_map spell c [] a here among = absurd here
In-flat_map spell c (z ∷ xs) a (inl same) among = In-append_left c (spell z) (flat_map spell xs) (subst (λ x. In c (spell x)) (sym same) among)
In-flat_map spell c (z ∷ xs) a (inr later) among = In-append_right c (spell z) (flat_map spell xs) (In-flat_map spell c xs a later among)

pub In-from_flat_map : {C A : Type 0} (spell : A → List C) (c : C) (xs : List A) → In c (flat_map spell xs) → (a : A) × In a xs × In c (spell a)
In-from_flat_map spell c [] here = absurd here
In-from_flat_map spell c (z ∷ xs) here =
    ⊎_elim
    (λ mine. (z, inl refl, mine))
    (λ later. let found = In-from_flat_map spell c xs later in (found.0, inr found.1, found.2))
    (In-append c (spell z) (flat_map spell xs) here)

pub In-filter_map : {C A : Type 0} (say : C → Option A) (a : A) (cs : List C) (c : C) → In c cs → say c ≡ Some a → In a (filter_map say cs)
In-filter_map say a [] c here is = absurd here
In-filter_map say a (z ∷ cs) c (inl same) is = subst (λ o. In a (cons_option o (filter_map say cs))) (sym (ap say same ∙ is)) (inl refl)
In-filter_map say a (z ∷ cs) c (inr later) is =
    let rest = In-filter_map say a cs c later is in
    elim (say z) as (λ o. In a (cons_option o (filter_map say cs))) [
      | None ↦ rest
      | Some b ↦ inr rest
    ]

pub In-from_filter_map : {C A : Type 0} (say : C → Option A) (a : A) (cs : List C) → In a (filter_map say cs) → (c : C) × In c cs × (say c ≡ Some a)
In-from_filter_map say a [] here = absurd here
In-from_filter_map say a (z ∷ cs) here =
    elim (say z) as (λ o. say z ≡ o → In a (cons_option o (filter_map say cs)) → (c : _) × In c (z ∷ cs) × (say c ≡ Some a)) [
      | None ↦ λ none found. (let more = In-from_filter_map say a cs found in (more.0, inr more.1, more.2))
      | Some b ↦ λ some found. ⊎_elim (λ same. (z, inl refl, some ∙ ap Some same)) (λ later. let more = In-from_filter_map say a cs later in (more.0, inr more.1, more.2)) found
    ] refl here

pub In-filter : {X : Type 0} (test : X → Bool) (x : X) (xs : List X) → In x xs → test x ≡ true → In x (filter test xs)
In-filter test x [] here is = absurd here
In-filter test x (y ∷ xs) (inl same) is = subst (λ b. In x (cond b (y ∷ filter test xs) (filter test xs))) (sym (ap test same ∙ is)) (inl same)
In-filter test x (y ∷ xs) (inr later) is =
    let rest = In-filter test x xs later is in
    elim (test y) as (λ b. In x (cond b (y ∷ filter test xs) (filter test xs))) [
      | true ↦ inr rest
      | false ↦ rest
    ]

pub In-from_filter : {X : Type 0} (test : X → Bool) (x : X) (xs : List X) → In x (filter test xs) → In x xs × (test x ≡ true)
In-from_filter test x [] here = absurd here
In-from_filter test x (y ∷ xs) here =
    elim (test y) as (λ b. test y ≡ b → In x (cond b (y ∷ filter test xs) (filter test xs)) → In x (y ∷ xs) × (test x ≡ true)) [
      | true ↦ λ is found. ⊎_elim (λ same. (inl same, sym (ap test same) ∙ is)) (λ later. let more = In-from_filter test x xs later in (inr more.0, more.1)) found
      | false ↦ λ is found. (let more = In-from_filter test x xs found in (inr more.0, more.1))
    ] refl here

-- ---- a list's members, by recursion and as std has them

all_in : {X : Type 0} (xs : List X) → All (λ x. In x xs) xs
all_in [] = All-nil (λ x. In x [])
all_in (y ∷ ys) =
    All-cons (λ x. In x (y ∷ ys)) y ys (inl refl) (All-weaker (λ x. In x ys) (λ x. In x (y ∷ ys)) (λ x here. inr here) ys (all_in ys))

pub In-from_contains : {X : Type 0} (x : X) (xs : List X) → Contains xs x → In x xs
In-from_contains x xs contains = All-contains (λ y. In y xs) xs x (all_in xs) contains

pub contains-from_In : {X : Type 0} (x : X) (xs : List X) → In x xs → Contains xs x
contains-from_In x [] here = absurd here
contains-from_In x (y ∷ ys) (inl here) = (0, omega arith, here)
contains-from_In x (y ∷ ys) (inr later) = Contains-append_right (y ∷ []) ys x (contains-from_In x ys later)

-- ---- the same members

pub same_refl : {X : Type 0} (a : List X) → SameMembers a a
same_refl a x = ((λ h. h), (λ h. h))

pub same_append : {X : Type 0} (a b c d : List X) → SameMembers a c → SameMembers b d → SameMembers (a ++ b) (c ++ d)
same_append a b c d one other x = (
  (λ here. ⊎_elim (λ p. In-append_left x c d ((one x).0 p)) (λ q. In-append_right x c d ((other x).0 q)) (In-append x a b here)),
  (λ here. ⊎_elim (λ p. In-append_left x a b ((one x).1 p)) (λ q. In-append_right x a b ((other x).1 q)) (In-append x c d here)),
)

pub same_sym : {X : Type 0} (a b : List X) → SameMembers a b → SameMembers b a
same_sym a b same x = ((same x).1, (same x).0)

pub same_trans : {X : Type 0} (a b c : List X) → SameMembers a b → SameMembers b c → SameMembers a c
same_trans a b c one other x = ((λ h. (other x).0 ((one x).0 h)), (λ h. (one x).1 ((other x).1 h)))

pub same_map : {X Y : Type 0} (f : X → Y) (a b : List X) → SameMembers a b → SameMembers (map f a) (map f b)
same_map f a b same y = (
  (λ here. let x = In-from_map f y a here in subst (λ u. In u (map f b)) x.2 (In-map f x.0 b ((same x.0).0 x.1))),
  (λ here. let x = In-from_map f y b here in subst (λ u. In u (map f a)) x.2 (In-map f x.0 a ((same x.0).1 x.1))),
)

pub same_filter_map : {X Y : Type 0} (f : X → Option Y) (a b : List X) → SameMembers a b → SameMembers (filter_map f a) (filter_map f b)
same_filter_map f a b same y = (
  (λ here. let x = In-from_filter_map f y a here in In-filter_map f y b x.0 ((same x.0).0 x.1) x.2),
  (λ here. let x = In-from_filter_map f y b here in In-filter_map f y a x.0 ((same x.0).1 x.1) x.2),
)
