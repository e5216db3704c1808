-- No pair, no conclusion.
use Rattle.std.proofs.Common.{◌≡◌, ℕ, List, [], ◌∷◌, ◌++◌, length, refl, sym, ap}
use Rattle.el_numbers.specs.inner.Conclude.{back_belows, first_links, second_links}
use Rattle.fact_rows.proofs.Members.{no_items}

pub same_end : {A : Type 0} (xs ys : List A) → ys ≡ [] → xs ≡ xs ++ ys
same_end xs ys e = rw e (sym (end_none xs))
  where
    end_none : {A : Type 0} (xs : List A) → xs ++ [] ≡ xs
    end_none [] = refl
    end_none (x ∷ xs) = ap (λ zs. x ∷ zs) (end_none xs)

pub back_belows_none : (somes back : List (ℕ × ℕ)) → length somes ≡ 0 → back_belows somes back ≡ []
back_belows_none somes back e = rw (no_items somes e) (each back)
  where
    each : (back : List (ℕ × ℕ)) → back_belows [] back ≡ []
    each [] = refl
    each (q ∷ qs) = each qs

pub first_links_none : (c : ℕ) (first out : List (ℕ × ℕ)) → length first ≡ 0 → first_links c first out ≡ []
first_links_none c first out e = rw (no_items first e) (each out)
  where
    each : (out : List (ℕ × ℕ)) → first_links c [] out ≡ []
    each [] = refl
    each (q ∷ qs) = each qs

pub second_links_none : (d : ℕ) (second back : List (ℕ × ℕ)) → length second ≡ 0 → second_links d second back ≡ []
second_links_none d second back e = rw (no_items second e) (each back)
  where
    each : (back : List (ℕ × ℕ)) → second_links d [] back ≡ []
    each [] = refl
    each (q ∷ qs) = each qs
