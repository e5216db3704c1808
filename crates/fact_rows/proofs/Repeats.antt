-- Lists without repeats: how long they are, and one behind the other.
use Rattle.std.proofs.Common.{◌≡◌, suc, ◌<◌, ◌≤◌, List, ◌∷◌, ◌++◌, length, refl, sym, ap, subst, arith, ◌⊎◌, ⊎_elim, inl, inr}
use Rattle.fact_rows.specs.Member.{In, here, there, NoRepeats, none, more}
use Rattle.fact_rows.proofs.Members.{in_cons, in_parts}

-- the list without an item that stands in it
without : {A : Type 0} {x : A} {ys : List A} → In x ys → List A
without (here {xs}) = xs
without (there {y} i) = y ∷ without i

one_less : {A : Type 0} {x : A} {ys : List A} (i : In x ys) → length ys ≡ suc (length (without i))
unfolding without
one_less (here {xs}) = refl
one_less (there {y} i) = ap suc (one_less i)

stays_in : {A : Type 0} {x z : A} {ys : List A} (i : In x ys) → In z ys → (z ≡ x) ⊎ In z (without i)
unfolding without
stays_in here j = in_cons j
stays_in {A} {x} {z} (there {y} i) j = ⊎_elim
    (λ (e : z ≡ y). inr (subst (λ w. In w (y ∷ without i)) (sym e) here))
    (λ k. ⊎_elim inl (λ m. inr (there m)) (stays_in i k))
    (in_cons j)

-- a list without repeats is no longer than one that has all its items
pub fits : {A : Type 0} {xs : List A} → NoRepeats xs → (ys : List A) → ((x : A) → In x xs → In x ys) → length xs ≤ length ys
fits none ys f = omega arith
fits (more {x} {xs} n r) ys f =
    let i = f x here in
    let m = fits r (without i) (λ z j. ⊎_elim (λ e. absurd (n (subst (λ w. In w xs) e j))) (λ k. k) (stays_in i (f z (there j)))) in
    omega (arith, m, one_less i)

pub fits_below : {A : Type 0} {xs : List A} → NoRepeats xs → (ys : List A) → ((x : A) → In x xs → In x ys) → (y : A) → In y ys → (In y xs → ⊥) → length xs < length ys
fits_below {A} {xs} r ys f y i n =
    let m : length (y ∷ xs) ≤ length ys = fits (more n r) ys (λ z j. ⊎_elim (λ e. subst (λ w. In w ys) (sym e) i) (λ k. f z k) (in_cons j)) in omega arith

-- one behind the other
pub repeats_append : {A : Type 0} {xs ys : List A} → NoRepeats xs → NoRepeats ys → ((x : A) → In x xs → In x ys → ⊥) → NoRepeats (xs ++ ys)
repeats_append none s f = s
repeats_append {A} {xs} {ys} (more {x} {xs = rest} n r) s f = more
    (λ i. ⊎_elim n (λ j. f x here j) (in_parts rest i))
    (repeats_append r s (λ z i j. f z (there i) j))
