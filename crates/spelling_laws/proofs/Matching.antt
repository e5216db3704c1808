-- Two options of which there is one exactly where there is the other.
use Rattle.std.proofs.Common.{◌≡◌, ◌⊎◌, Bool, true, false, List, [], ◌∷◌, Option, None, Some, inl, inr, refl, sym, ap, subst}
use Rattle.std.specs.Option.{IsSome, option_and_then, option_map, option_or}
use Rattle.text_sets.specs.Parts.{Taken, each_some, first_some, take_one, take_one_more}
use Rattle.obo_notes.specs.Context.{where_true}

-- both are there and related, or neither is there
abbrev pub Matches : {X Y : Type 0} → (X → Y → Type 0) → Option X → Option Y → Type 0
Matches R None None = Unit {0}
Matches R None (Some y) = ⊥
Matches R (Some x) None = ⊥
Matches R (Some x) (Some y) = R x y

-- whatever they are
abbrev pub Any : (X Y : Type 0) → X → Y → Type 0
Any X Y x y = Unit {0}

abbrev pub Alike : {X Y : Type 0} → Option X → Option Y → Type 0
Alike {X = X} {Y = Y} o p = Matches (Any X Y) o p

pub matches_self : {X : Type 0} (R : X → X → Type 0) → ((x : X) → R x x) → (o : Option X) → Matches R o o
matches_self R each None = tt
matches_self R each (Some x) = each x

pub alike_self : {X : Type 0} (o : Option X) → Alike o o
alike_self None = tt
alike_self (Some x) = tt

pub alike_from : {X Y : Type 0} (R : X → Y → Type 0) (o : Option X) (p : Option Y) → Matches R o p → Alike o p
alike_from R None None is = tt
alike_from R None (Some y) is = is
alike_from R (Some x) None is = is
alike_from R (Some x) (Some y) is = tt

pub alike_some : {X Y : Type 0} (o : Option X) (p : Option Y) → Alike o p → IsSome o → IsSome p
alike_some None p is some = let h : false ≡ true = some in absurd (cc)
alike_some (Some x) None is some = absurd is
alike_some (Some x) (Some y) is some = refl

pub alike_ways : {X Y : Type 0} (o : Option X) (p : Option Y) → (IsSome o → IsSome p) → (IsSome p → IsSome o) → Alike o p
alike_ways None None there back = tt
alike_ways None (Some y) there back = let h : false ≡ true = back refl in absurd (cc)
alike_ways (Some x) None there back = let h : false ≡ true = there refl in absurd (cc)
alike_ways (Some x) (Some y) there back = tt

pub matches_map : {X Y U V : Type 0} (R : X → Y → Type 0) (S : U → V → Type 0) (f : X → U) (g : Y → V) (o : Option X) (p : Option Y)
    → Matches R o p → ((x : X) (y : Y) → R x y → S (f x) (g y)) → Matches S (option_map f o) (option_map g p)
matches_map R S f g None None is each = tt
matches_map R S f g None (Some y) is each = absurd is
matches_map R S f g (Some x) None is each = absurd is
matches_map R S f g (Some x) (Some y) is each = each x y is

pub matches_then : {X Y U V : Type 0} (R : X → Y → Type 0) (S : U → V → Type 0) (f : X → Option U) (g : Y → Option V) (o : Option X) (p : Option Y)
    → Matches R o p → ((x : X) (y : Y) → R x y → Matches S (f x) (g y)) → Matches S (option_and_then f o) (option_and_then g p)
matches_then R S f g None None is each = tt
matches_then R S f g None (Some y) is each = absurd is
matches_then R S f g (Some x) None is each = absurd is
matches_then R S f g (Some x) (Some y) is each = each x y is

-- the same option, and behind it what matches
pub matches_behind : {X U V : Type 0} (S : U → V → Type 0) (f : X → Option U) (g : X → Option V) (o : Option X)
    → ((x : X) → Matches S (f x) (g x)) → Matches S (option_and_then f o) (option_and_then g o)
matches_behind S f g None each = tt
matches_behind S f g (Some x) each = each x

pub matches_where : {X Y : Type 0} (R : X → Y → Type 0) (test : Bool) (o : Option X) (p : Option Y) → Matches R o p → Matches R (where_true test o) (where_true test p)
matches_where R true o p is = is
matches_where R false o p is = tt

pub alike_map : {X Y U V : Type 0} (f : X → U) (g : Y → V) (o : Option X) (p : Option Y) → Alike o p → Alike (option_map f o) (option_map g p)
alike_map {X = X} {Y = Y} {U = U} {V = V} f g o p is = matches_map (Any X Y) (Any U V) f g o p is (λ x y r. tt)

pub alike_then : {X Y U V : Type 0} (f : X → Option U) (g : Y → Option V) (o : Option X) (p : Option Y) → Alike o p → ((x : X) (y : Y) → Alike (f x) (g y)) → Alike (option_and_then f o) (option_and_then g p)
alike_then {X = X} {Y = Y} {U = U} {V = V} f g o p is each = matches_then (Any X Y) (Any U V) f g o p is (λ x y r. each x y)

pub alike_where : {X Y : Type 0} (test : Bool) (o : Option X) (p : Option Y) → Alike o p → Alike (where_true test o) (where_true test p)
alike_where true o p is = is
alike_where false o p is = tt

pub alike_or : {X Y : Type 0} (o more : Option X) (p others : Option Y) → Alike o p → Alike more others → Alike (option_or o more) (option_or p others)
alike_or None more None others is also = also
alike_or None more (Some y) others is also = absurd is
alike_or (Some x) more None others is also = absurd is
alike_or (Some x) more (Some y) others is also = tt

pub alike_first : {X Y Z : Type 0} (f : X → Option Y) (g : X → Option Z) (xs : List X) → ((x : X) → Alike (f x) (g x)) → Alike (first_some f xs) (first_some g xs)
alike_first f g [] each = tt
alike_first f g (x ∷ xs) each = alike_or (f x) (first_some f xs) (g x) (first_some g xs) (each x) (alike_first f g xs each)

pub alike_each : {X Y Z : Type 0} (f : X → Option Y) (g : X → Option Z) (xs : List X) → ((x : X) → Alike (f x) (g x)) → Alike (each_some f xs) (each_some g xs)
alike_each f g [] each = tt
alike_each f g (x ∷ xs) each =
    alike_then (λ y. option_map (λ ys. y ∷ ys) (each_some f xs)) (λ z. option_map (λ zs. z ∷ zs) (each_some g xs)) (f x) (g x) (each x)
    (λ y z. alike_map (λ ys. y ∷ ys) (λ zs. z ∷ zs) (each_some f xs) (each_some g xs) (alike_each f g xs each))

-- what is left where one part is taken
one_rest : {X Y Z : Type 0} (x : X) (xs : List X) (o : Option Y) (p : Option Z) (more : Taken X Y) (others : Taken X Z) → Alike o p → more.rest ≡ others.rest → (take_one_more x xs o more).rest ≡ (take_one_more x xs p others).rest
one_rest x xs None None more others is same = ap (λ rest. x ∷ rest) same
one_rest x xs None (Some z) more others is same = absurd is
one_rest x xs (Some y) None more others is same = absurd is
one_rest x xs (Some y) (Some z) more others is same = refl

pub rest_alike : {X Y Z : Type 0} (f : X → Option Y) (g : X → Option Z) → ((x : X) → Alike (f x) (g x)) → (xs : List X) → (take_one f xs).rest ≡ (take_one g xs).rest
rest_alike f g each [] = refl
rest_alike f g each (x ∷ xs) = one_rest x xs (f x) (g x) (take_one f xs) (take_one g xs) (each x) (rest_alike f g each xs)

-- ---- an option that is there

pub map_some : {X Y : Type 0} (f : X → Y) (o : Option X) → IsSome o → IsSome (option_map f o)
map_some f None some = let h : false ≡ true = some in absurd (cc)
map_some f (Some x) some = refl

pub or_one : {X : Type 0} (o more : Option X) → IsSome (option_or o more) → IsSome o ⊎ IsSome more
or_one None more some = inr some
or_one (Some x) more some = inl refl

pub some_left : {X : Type 0} (o more : Option X) → IsSome o → IsSome (option_or o more)
some_left None more some = let h : false ≡ true = some in absurd (cc)
some_left (Some x) more some = refl

pub some_right : {X : Type 0} (o more : Option X) → IsSome more → IsSome (option_or o more)
some_right None more some = some
some_right (Some x) more some = refl

pub some_from : {X : Type 0} (o : Option X) (x : X) → o ≡ Some x → IsSome o
some_from o x is = subst (λ p. IsSome p) (sym is) refl

pub map_back : {X Y : Type 0} (f : X → Y) (o : Option X) → IsSome (option_map f o) → IsSome o
map_back f None some = some
map_back f (Some x) some = refl

pub where_some : {X : Type 0} (test : Bool) (o : Option X) → IsSome (where_true test o) → (test ≡ true) × IsSome o
where_some true o some = (refl, some)
where_some false o some = let h : false ≡ true = some in absurd (cc)

pub where_from : {X : Type 0} (test : Bool) (o : Option X) → test ≡ true → IsSome o → IsSome (where_true test o)
where_from test o is some = subst (λ t. IsSome (where_true t o)) (sym is) some

pub then_some : {X Y : Type 0} (f : X → Option Y) (o : Option X) → IsSome (option_and_then f o) → (x : X) × (o ≡ Some x) × IsSome (f x)
then_some f None some = let h : false ≡ true = some in absurd (cc)
then_some f (Some x) some = (x, refl, some)
