-- Lists that grow at the end.
use Rattle.std.proofs.Common.{◌≡◌, ℕ, ◌<◌, Bool, true, false, ◌&&◌, ◌⊎◌, List, [], ◌∷◌, ◌++◌, zero, suc, None, Some, inl, inr, get_or, length, map, nat_lt, slice_get, take, refl, sym, ap, subst, ◌∙◌, true≢false, arith}
use Rattle.std.specs.List.{list_all}
use Rattle.std.proofs.lemmas.Bool.{ltb-true, lt-ltb}

pub both : (s t : Bool) → (s && t) ≡ true → (s ≡ true) × (t ≡ true)
both true t h = (refl, h)
both false t h = absurd (true≢false (sym h))

pub and_true : (b : Bool) → (b && true) ≡ true → b ≡ true
and_true b h = (both b true h).0

pub none_some : {X : Type 0} {A : Type 0} (x : X) → None ≡ Some x → A
none_some x h = absurd cc

pub some_is : {X : Type 0} {x y : X} → Some x ≡ Some y → x ≡ y
some_is h = cc

pub head_is : {X : Type 0} {x y : X} {xs ys : List X} → x ∷ xs ≡ y ∷ ys → x ≡ y
head_is h = cc

pub tail_is : {X : Type 0} {x y : X} {xs ys : List X} → x ∷ xs ≡ y ∷ ys → xs ≡ ys
tail_is h = cc

pub get_left : {X : Type 0} (xs ys : List X) (i : ℕ) (x : X) → slice_get xs i ≡ Some x → slice_get (xs ++ ys) i ≡ Some x
get_left [] ys i x h = none_some x h
get_left (y ∷ xs) ys zero x h = h
get_left (y ∷ xs) ys (suc i) x h = get_left xs ys i x h

pub get_or_left : {X : Type 0} (xs ys : List X) (i : ℕ) (d : X) → i < length xs → get_or (xs ++ ys) i d ≡ get_or xs i d
get_or_left [] ys i d h = absurd (omega arith)
get_or_left (x ∷ xs) ys zero d h = refl
get_or_left (x ∷ xs) ys (suc i) d h = get_or_left xs ys i d (omega arith)

pub get_last : {X : Type 0} (xs : List X) (x : X) → slice_get (xs ++ x ∷ []) (length xs) ≡ Some x
get_last [] x = refl
get_last (y ∷ xs) x = get_last xs x

pub get_snoc : {X : Type 0} (xs : List X) (x : X) (i : ℕ) (t : X) → slice_get (xs ++ x ∷ []) i ≡ Some t → (slice_get xs i ≡ Some t) ⊎ ((i ≡ length xs) × (x ≡ t))
get_snoc [] x zero t h = inr (refl, some_is h)
get_snoc [] x (suc i) t h = none_some t h
get_snoc (y ∷ xs) x zero t h = inl h
get_snoc (y ∷ xs) x (suc i) t h = next (get_snoc xs x i t h)
  where
    next : (slice_get xs i ≡ Some t) ⊎ ((i ≡ length xs) × (x ≡ t)) → (slice_get xs i ≡ Some t) ⊎ ((suc i ≡ suc (length xs)) × (x ≡ t))
    next (inl k) = inl k
    next (inr k) = inr (ap suc k.0, k.1)

pub get_map : {X Y : Type 0} (f : X → Y) (xs : List X) (i : ℕ) (y : Y) → slice_get (map f xs) i ≡ Some y → (x : X) × (slice_get xs i ≡ Some x) × (f x ≡ y)
get_map f [] i y h = none_some y h
get_map f (x ∷ xs) zero y h = (x, refl, some_is h)
get_map f (x ∷ xs) (suc i) y h = get_map f xs i y h

pub map_get : {X Y : Type 0} (f : X → Y) (xs : List X) (i : ℕ) (x : X) → slice_get xs i ≡ Some x → slice_get (map f xs) i ≡ Some (f x)
map_get f [] i x h = none_some x h
map_get f (y ∷ xs) zero x h = ap (λ y. Some (f y)) (some_is h)
map_get f (y ∷ xs) (suc i) x h = map_get f xs i x h

pub map_snoc : {X Y : Type 0} (f : X → Y) (xs : List X) (x : X) → map f (xs ++ x ∷ []) ≡ map f xs ++ f x ∷ []
map_snoc f [] x = refl
map_snoc f (y ∷ xs) x = ap (λ l. f y ∷ l) (map_snoc f xs x)

pub take_get : {X : Type 0} (n : ℕ) (xs : List X) (i : ℕ) (x : X) → slice_get (take n xs) i ≡ Some x → slice_get xs i ≡ Some x
take_get zero xs i x h = none_some x h
take_get (suc n) [] i x h = h
take_get (suc n) (y ∷ xs) zero x h = h
take_get (suc n) (y ∷ xs) (suc i) x h = take_get n xs i x h

pub get_grown : {X : Type 0} (old new : List X) (i : ℕ) (x : X) → take (length old) new ≡ old → slice_get old i ≡ Some x → slice_get new i ≡ Some x
get_grown old new i x g h = take_get (length old) new i x (ap (λ l. slice_get l i) g ∙ h)

pub grew_append : {X : Type 0} (old more : List X) → take (length old) (old ++ more) ≡ old
grew_append [] more = refl
grew_append (x ∷ old) more = ap (λ l. x ∷ l) (grew_append old more)

pub grew_same : {X : Type 0} (old : List X) → take (length old) old ≡ old
grew_same [] = refl
grew_same (x ∷ old) = ap (λ l. x ∷ l) (grew_same old)

pub grew_more : {X : Type 0} (a b c : List X) → take (length a) b ≡ a → take (length b) c ≡ b → take (length a) c ≡ a
grew_more [] b c h k = refl
grew_more (x ∷ a) [] c h k = absurd cc
grew_more (x ∷ a) (y ∷ b) [] h k = absurd cc
grew_more (x ∷ a) (y ∷ b) (z ∷ c) h k =
    let first : z ≡ x = head_is k ∙ head_is h in
    let rest : take (length a) c ≡ a = grew_more a b c (tail_is h) (tail_is k) in
    λ i. first i ∷ rest i

pub lt_from : (i n : ℕ) → nat_lt i n ≡ true → i < n
lt_from i n h = ltb-true i n h

pub lt_to : (i n : ℕ) → i < n → nat_lt i n ≡ true
lt_to i n h = lt-ltb i n h

pub all_more : {X : Type 0} (p q : X → Bool) → ((x : X) → p x ≡ true → q x ≡ true) → (xs : List X) → list_all p xs ≡ true → list_all q xs ≡ true
all_more p q pq [] h = refl
all_more p q pq (x ∷ xs) h =
    let parts : (p x ≡ true) × (list_all p xs ≡ true) = both _ _ h in
    let rest : list_all q xs ≡ true = all_more p q pq xs parts.1 in
    λ i. pq x parts.0 i && rest i

pub map_same : {X Y : Type 0} (p : X → Bool) (f g : X → Y) → ((x : X) → p x ≡ true → f x ≡ g x) → (xs : List X) → list_all p xs ≡ true → map f xs ≡ map g xs
map_same p f g fg [] h = refl
map_same p f g fg (x ∷ xs) h =
    let parts : (p x ≡ true) × (list_all p xs ≡ true) = both _ _ h in
    λ i. fg x parts.0 i ∷ map_same p f g fg xs parts.1 i

pub map_back : {X Y : Type 0} (p : X → Bool) (f : X → Y) (g : Y → X) → ((x : X) → p x ≡ true → g (f x) ≡ x) → (xs : List X) → list_all p xs ≡ true → map g (map f xs) ≡ xs
map_back p f g gf [] h = refl
map_back p f g gf (x ∷ xs) h =
    let parts : (p x ≡ true) × (list_all p xs ≡ true) = both _ _ h in
    λ i. gf x parts.0 i ∷ map_back p f g gf xs parts.1 i

pub all_at : {X : Type 0} (p : X → Bool) (xs : List X) (i : ℕ) (x : X) → list_all p xs ≡ true → slice_get xs i ≡ Some x → p x ≡ true
all_at p [] i x all h = none_some x h
all_at p (y ∷ xs) zero x all h = subst (λ z. p z ≡ true) (some_is h) (both _ _ all).0
all_at p (y ∷ xs) (suc i) x all h = all_at p xs i x (both _ _ all).1 h
