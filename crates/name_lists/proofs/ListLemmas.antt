-- Lists of numbers with one number more.
use Rattle.std.proofs.Common.{◌≡◌, ℕ, zero, suc, ◌+◌, ◌<◌, List, [], ◌∷◌, ◌++◌, get_or, length, map, slice_index_or, slice_set, refl, sym, ap, arith, inl, inr, ◌⊎◌}
use Rattle.fact_rows.specs.Member.{In, here}
use Rattle.fact_rows.proofs.Members.{in_cons, in_none, in_left, in_parts, in_right}
use Rattle.name_lists.specs.Lists.{list_with, number_count}

pub map_set : {X Y : Type 0} (f : X → Y) (xs : List X) (i : ℕ) (x : X) → map f (slice_set xs i x) ≡ slice_set (map f xs) i (f x)
map_set f [] i x = refl
map_set f (y ∷ xs) zero x = refl
map_set f (y ∷ xs) (suc i) x = ap (λ l. f y ∷ l) (map_set f xs i x)

pub long_map_set : {X Y : Type 0} (f : X → Y) (xs : List X) (i : ℕ) (x : X) → length (map f (slice_set xs i x)) ≡ length (map f xs)
long_map_set f [] i x = refl
long_map_set f (y ∷ xs) zero x = refl
long_map_set f (y ∷ xs) (suc i) x = ap suc (long_map_set f xs i x)

pub within_map : {X Y : Type 0} (f : X → Y) (xs : List X) (i : ℕ) → i < length (map f xs) → i < length xs
within_map f [] i l = l
within_map f (x ∷ xs) zero l = omega arith
within_map f (x ∷ xs) (suc i) l = let rest : i < length xs = within_map f xs i (omega (arith, l)) in omega (arith, rest)

pub read_map : {X Y : Type 0} (f : X → Y) (xs : List X) (i : ℕ) (x : X) (d : Y) → i < length xs → x ≡ slice_index_or xs i x → get_or (map f xs) i d ≡ f x
read_map f [] i x d l h = absurd (omega (arith, l))
read_map f (y ∷ xs) zero x d l h = ap f (sym h)
read_map f (y ∷ xs) (suc i) x d l h = read_map f xs i x d (omega (arith, l)) h

pub long_with : (lists : List (List ℕ)) (at n : ℕ) → length (list_with lists at n) ≡ length lists
long_with [] at n = refl
long_with (l ∷ lists) zero n = refl
long_with (l ∷ lists) (suc at) n = ap suc (long_with lists at n)

pub long_more : {X : Type 0} (xs : List X) (x : X) → length (xs ++ x ∷ []) ≡ length xs + 1
long_more [] x = refl
long_more (y ∷ xs) x = let rest = long_more xs x in omega (arith, rest)

pub in_with : (lists : List (List ℕ)) (at n : ℕ) → at < length lists → In n (get_or (list_with lists at n) at [])
in_with [] at n l = absurd (omega (arith, l))
in_with (l ∷ lists) zero n w = in_right l here
in_with (l ∷ lists) (suc at) n w = in_with lists at n (omega (arith, w))

pub in_kept : (lists : List (List ℕ)) (at n s i : ℕ) → In i (get_or lists s []) → In i (get_or (list_with lists at n) s [])
in_kept [] at n s i h = h
in_kept (l ∷ lists) zero n zero i h = in_left (n ∷ []) h
in_kept (l ∷ lists) zero n (suc s) i h = h
in_kept (l ∷ lists) (suc at) n zero i h = h
in_kept (l ∷ lists) (suc at) n (suc s) i h = in_kept lists at n s i h

pub in_from : (lists : List (List ℕ)) (at n s i : ℕ) → In i (get_or (list_with lists at n) s []) → In i (get_or lists s []) ⊎ (i ≡ n)
in_from [] at n s i h = inl h
in_from (l ∷ lists) zero n zero i h = elim (in_parts l h) [
  | inl k ↦ inl k
  | inr k ↦ inr (elim (in_cons k) [
    | inl e ↦ e
    | inr z ↦ in_none z
  ])
]
in_from (l ∷ lists) zero n (suc s) i h = inl h
in_from (l ∷ lists) (suc at) n zero i h = inl h
in_from (l ∷ lists) (suc at) n (suc s) i h = in_from lists at n s i h

pub in_last : (lists : List (List ℕ)) (n : ℕ) → In n (get_or (lists ++ (n ∷ []) ∷ []) (length lists) [])
in_last [] n = here
in_last (l ∷ lists) n = in_last lists n

pub in_before : (lists : List (List ℕ)) (l : List ℕ) (s i : ℕ) → In i (get_or lists s []) → In i (get_or (lists ++ l ∷ []) s [])
in_before [] l s i h = in_none h
in_before (k ∷ lists) l zero i h = h
in_before (k ∷ lists) l (suc s) i h = in_before lists l s i h

pub in_more : (lists : List (List ℕ)) (n s i : ℕ) → In i (get_or (lists ++ (n ∷ []) ∷ []) s []) → In i (get_or lists s []) ⊎ (i ≡ n)
in_more [] n zero i h = inr (elim (in_cons h) [
  | inl e ↦ e
  | inr z ↦ in_none z
])
in_more [] n (suc s) i h = inl h
in_more (k ∷ lists) n zero i h = inl h
in_more (k ∷ lists) n (suc s) i h = in_more lists n s i h

pub count_with : (lists : List (List ℕ)) (at n : ℕ) → at < length lists → number_count (list_with lists at n) ≡ number_count lists + 1
count_with [] at n l = absurd (omega (arith, l))
count_with (l ∷ lists) zero n w = let e = long_more l n in omega (arith, e)
count_with (l ∷ lists) (suc at) n w = let e = count_with lists at n (omega (arith, w)) in omega (arith, e)

pub count_more : (lists : List (List ℕ)) (n : ℕ) → number_count (lists ++ (n ∷ []) ∷ []) ≡ number_count lists + 1
count_more [] n = refl
count_more (l ∷ lists) n = let e = count_more lists n in omega (arith, e)
