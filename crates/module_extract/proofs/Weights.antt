-- Sums over the logical axioms of a part.
use Rattle.std.proofs.Common.{◌≡◌, ℕ, zero, suc, ◌+◌, ◌≤◌, ◌&&◌, Bool, true, false, List, [], ◌∷◌, Some, if◌then◌else◌, length, slice_get, take, refl, ap, ◌∙◌, add-one, arith}
use Rattle.rel_io.proofs.Options.{none_there, same_there}
use Rattle.owl_axioms.specs.declared.body.Axiom.{Axiom}
use Rattle.owl_sem.specs.Models.{is_logical}
use Rattle.module_extract.specs.Module.{IsPart}
use Rattle.module_extract.specs.Tests.{logical_part, names_number, test_bound, total}
use Rattle.module_extract.specs.inner.Setting.{once, weigh}

weigh_suc : (m : Axiom → ℕ) (part : List Bool) (axioms : List Axiom) (i : ℕ) (f : Bool) (a : Axiom) → slice_get part i ≡ Some f → slice_get axioms i ≡ Some a
    → weigh m (take (suc i) part) (take (suc i) axioms) ≡ weigh m (take i part) (take i axioms) + (if f && is_logical a.body then m a else 0)
weigh_suc m [] axioms i f a h k = absurd (none_there h)
weigh_suc m (g ∷ part) [] i f a h k = absurd (none_there k)
weigh_suc m (g ∷ part) (b ∷ axioms) zero f a h k = let e : (if g && is_logical b.body then m b else 0) ≡ (if f && is_logical a.body then m a else 0) = λ i. if same_there h i && is_logical (same_there k i).body then m (same_there k i) else 0 in omega (arith, e)
weigh_suc m (g ∷ part) (b ∷ axioms) (suc i) f a h k = let rest = weigh_suc m part axioms i f a h k in omega (arith, rest)

pub weigh_next : (m : Axiom → ℕ) (part : List Bool) (axioms : List Axiom) (i : ℕ) (f : Bool) (a : Axiom) → slice_get part i ≡ Some f → slice_get axioms i ≡ Some a
    → weigh m (take (i + 1) part) (take (i + 1) axioms) ≡ weigh m (take i part) (take i axioms) + (if f && is_logical a.body then m a else 0)
weigh_next m part axioms i f a h k = ap (λ n. weigh m (take n part) (take n axioms)) (add-one i) ∙ weigh_suc m part axioms i f a h k

weigh_by : (m : Axiom → ℕ) (part : List Bool) (axioms : List Axiom) → total m (logical_part axioms part) ≡ weigh m part axioms
weigh_by m [] axioms = refl
weigh_by m (f ∷ part) [] = refl
weigh_by m (true ∷ part) (a ∷ axioms) = by (is_logical a.body) (weigh_by m part axioms)
  where
    by : (b : Bool) → total m (logical_part axioms part) ≡ weigh m part axioms → total m (if b then a ∷ logical_part axioms part else logical_part axioms part) ≡ (if b then m a else 0) + weigh m part axioms
    by true e = omega (arith, e)
    by false e = omega (arith, e)
weigh_by m (false ∷ part) (a ∷ axioms) = let e = weigh_by m part axioms in omega (arith, e)

once_by : (xs : List Axiom) → length xs ≡ total once xs
once_by [] = refl
once_by (x ∷ xs) = let e = once_by xs in omega (arith, e)

pub bound_is : (axioms : List Axiom) (part : List Bool) → test_bound axioms part ≡ weigh once part axioms + weigh names_number part axioms
bound_is axioms part = λ i. (once_by (logical_part axioms part) ∙ weigh_by once part axioms) i + weigh_by names_number part axioms i

-- a part of a part weighs no more
weigh_less : (m : Axiom → ℕ) (less more' : List Bool) (axioms : List Axiom) → IsPart less more' → weigh m less axioms ≤ weigh m more' axioms
weigh_less m [] more' axioms p = omega arith
weigh_less m (f ∷ less) more' [] p = omega arith
weigh_less m (true ∷ less) [] (a ∷ axioms) p = absurd (none_there (p 0 refl))
weigh_less m (false ∷ less) [] (a ∷ axioms) p = let rest = weigh_less m less [] axioms (λ i h. p (suc i) h) in omega (arith, rest)
weigh_less m (true ∷ less) (g ∷ more') (a ∷ axioms) p =
    let rest = weigh_less m less more' axioms (λ i h. p (suc i) h) in
    let e : (if g && is_logical a.body then m a else 0) ≡ (if true && is_logical a.body then m a else 0) = λ i. if same_there (p 0 refl) i && is_logical a.body then m a else 0 in
    omega (arith, rest, e)
weigh_less m (false ∷ less) (g ∷ more') (a ∷ axioms) p = let rest = weigh_less m less more' axioms (λ i h. p (suc i) h) in omega (arith, rest)

pub bound_less : (axioms : List Axiom) (less more' : List Bool) → IsPart less more' → test_bound axioms less ≤ test_bound axioms more'
bound_less axioms less more' p =
    let a = bound_is axioms less in
    let b = bound_is axioms more' in
    let c = weigh_less once less more' axioms p in
    let d = weigh_less names_number less more' axioms p in
    omega (arith, a, b, c, d)
