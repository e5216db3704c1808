-- Counts of flags, and parts with fewer.
use Rattle.std.proofs.Common.{◌≡◌, ℕ, zero, suc, ◌+◌, ◌<◌, ◌≤◌, ◌⊎◌, inl, inr, Bool, true, false, List, [], ◌∷◌, ◌++◌, Some, add-one, slice_get, length, map, take, refl, sym, ap, ◌∙◌, arith, true≢false, if◌then◌else◌}
use Rattle.owl_axioms.specs.declared.body.Axiom.{Axiom}
use Rattle.rel_io.proofs.Options.{none_there, same_there}
use Rattle.module_extract.specs.Module.{IsPart, logical_flags, on_count}

pub take_suc : {X : Type 0} (xs : List X) (i : ℕ) (x : X) → slice_get xs i ≡ Some x → take (suc i) xs ≡ take i xs ++ x ∷ []
take_suc [] i x h = absurd (none_there h)
take_suc (y ∷ xs) zero x h = ap (λ w. w ∷ []) (same_there h)
take_suc (y ∷ xs) (suc i) x h = ap (λ ws. y ∷ ws) (take_suc xs i x h)

pub map_next : {X Y : Type 0} (g : X → Y) (xs : List X) (i : ℕ) (x : X) → slice_get xs i ≡ Some x → map g (take (i + 1) xs) ≡ map g (take i xs) ++ g x ∷ []
map_next g xs i x h = ap (λ n. map g (take n xs)) (add-one i) ∙ ap (map g) (take_suc xs i x h) ∙ last (take i xs)
  where
    last : (ys : List _) → map g (ys ++ x ∷ []) ≡ map g ys ++ g x ∷ []
    last [] = refl
    last (y ∷ ys) = ap (λ ws. g y ∷ ws) (last ys)

pub count_next : (fs : List Bool) (i : ℕ) (f : Bool) → slice_get fs i ≡ Some f → on_count (take (i + 1) fs) ≡ on_count (take i fs) + (if f then 1 else 0)
count_next fs i f h = ap (λ n. on_count (take n fs)) (add-one i) ∙ by fs i h
  where
    alone : (b : Bool) → on_count (b ∷ []) ≡ 0 + (if b then 1 else 0)
    alone true = omega arith
    alone false = omega arith

    by : (fs : List Bool) (i : ℕ) → slice_get fs i ≡ Some f → on_count (take (suc i) fs) ≡ on_count (take i fs) + (if f then 1 else 0)
    by [] i h = absurd (none_there h)
    by (g ∷ fs) zero h = ap (λ b. on_count (b ∷ [])) (same_there h) ∙ alone f
    by (g ∷ fs) (suc i) h = let rest = by fs i h in omega (arith, rest)

pub count_most : (fs : List Bool) → on_count fs ≤ length fs
count_most [] = omega arith
count_most (true ∷ fs) = let rest = count_most fs in omega (arith, rest)
count_most (false ∷ fs) = let rest = count_most fs in omega (arith, rest)

pub take_whole : {X : Type 0} (xs : List X) (n : ℕ) → length xs ≤ n → take n xs ≡ xs
take_whole [] zero h = refl
take_whole [] (suc n) h = refl
take_whole (x ∷ xs) zero h = absurd (omega (arith, h))
take_whole (x ∷ xs) (suc n) h = ap (λ ys. x ∷ ys) (take_whole xs n (omega (arith, h)))

-- a part is the whole, or has fewer
pub whole_or_fewer : (less more' : List Bool) → length less ≡ length more' → IsPart less more' → (less ≡ more') ⊎ (on_count less < on_count more')
whole_or_fewer [] [] l p = inl refl
whole_or_fewer [] (g ∷ gs) l p = absurd (omega (arith, l))
whole_or_fewer (f ∷ fs) [] l p = absurd (omega (arith, l))
whole_or_fewer (f ∷ fs) (g ∷ gs) l p = by f g (λ h. same_there (p 0 (ap Some h))) (whole_or_fewer fs gs (omega (arith, l)) (λ i h. p (suc i) h))
  where
    by : (f g : Bool) → (f ≡ true → g ≡ true) → (fs ≡ gs) ⊎ (on_count fs < on_count gs) → (f ∷ fs ≡ g ∷ gs) ⊎ (on_count (f ∷ fs) < on_count (g ∷ gs))
    by true true h (inl e) = inl (ap (λ xs. true ∷ xs) e)
    by true true h (inr e) = inr (omega (arith, e))
    by false false h (inl e) = inl (ap (λ xs. false ∷ xs) e)
    by false false h (inr e) = inr (omega (arith, e))
    by false true h (inl e) = let c = ap on_count e in inr (omega (arith, c))
    by false true h (inr e) = inr (omega (arith, e))
    by true false h e = absurd (true≢false (sym (h refl)))

pub flag_most : (fs : List Bool) (i : ℕ) (f : Bool) → slice_get fs i ≡ Some f → on_count (take i fs) + (if f then 1 else 0) ≤ length fs
flag_most [] i f h = absurd (none_there h)
flag_most (g ∷ fs) zero f h = by f
  where
    by : (b : Bool) → 0 + (if b then 1 else 0) ≤ suc (length fs)
    by true = omega arith
    by false = omega arith
flag_most (true ∷ fs) (suc i) f h = let rest = flag_most fs i f h in omega (arith, rest)
flag_most (false ∷ fs) (suc i) f h = let rest = flag_most fs i f h in omega (arith, rest)

pub flags_length : (axioms : List Axiom) → length (logical_flags axioms) ≡ length axioms
flags_length [] = refl
flags_length (a ∷ axioms) = let rest = flags_length axioms in omega (arith, rest)
