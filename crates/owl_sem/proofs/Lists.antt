-- What a filter keeps.
use Rattle.std.proofs.Common.{◌≡◌, Bool, true, false, cond, List, [], ◌∷◌, Contains, filter, subst, sym}
use Rattle.owl_axioms.proofs.Listed.{by_place, here, later, not_in_nothing}

pub filter_in : {X : Type 0} (p : X → Bool) (x : X) (xs : List X) → Contains (filter p xs) x → Contains xs x
filter_in p x [] h = not_in_nothing x h
filter_in p x (y ∷ xs) h = by (filter_in p x xs) (p y) h
  where
    by : (Contains (filter p xs) x → Contains xs x) → (b : Bool) → Contains (cond b (y ∷ filter p xs) (filter p xs)) x → Contains (y ∷ xs) x
    by rest true k = by_place y x (filter p xs) k (λ e. subst (λ z. Contains (z ∷ xs) x) (sym e) (here x xs)) (λ l. later y x xs (rest l))
    by rest false k = later y x xs (rest k)

pub in_filter : {X : Type 0} (p : X → Bool) (x : X) (xs : List X) → Contains xs x → p x ≡ true → Contains (filter p xs) x
in_filter p x [] h k = not_in_nothing x h
in_filter p x (y ∷ xs) h k = by_place y x xs h first (λ l. more (p y) (in_filter p x xs l k))
  where
    first : y ≡ x → Contains (filter p (y ∷ xs)) x
    first e = subst (λ z. Contains (filter p (z ∷ xs)) x) (sym e) (subst (λ b. Contains (cond b (x ∷ filter p xs) (filter p xs)) x) (sym k) (here x (filter p xs)))

    more : (b : Bool) → Contains (filter p xs) x → Contains (cond b (y ∷ filter p xs) (filter p xs)) x
    more true l = later y x (filter p xs) l
    more false l = l
