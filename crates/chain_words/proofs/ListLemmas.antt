-- Lists, read from the left.
use Rattle.std.proofs.Common.{◌≡◌, ℕ, ◌+◌, ◌<◌, List, ◌∷◌, length, get_or, drop, filter, Bool, ◌&&◌, cond, ap, sym, ◌∙◌}
use Rattle.std.proofs.lemmas.List.{at_drop_more}
use Rattle.std.specs.List.{list_all}

-- the items from place i on that pass a test begin with the item there, where it passes
pub filter_drop : {A : Type 0} (p : A → Bool) (xs : List A) (i : ℕ) (x : A) → i < length xs → x ≡ get_or xs i x → filter p (drop i xs) ≡ cond (p x) (x ∷ filter p (drop (i + 1) xs)) (filter p (drop (i + 1) xs))
filter_drop p xs i x within is = at_drop_more (filter p) xs i x within ∙ ap (λ y. cond (p y) (y ∷ filter p (drop (i + 1) xs)) (filter p (drop (i + 1) xs))) (sym is)

-- a test of all items from place i on tests the item there, and goes on behind it
pub list_all_drop : {A : Type 0} (p : A → Bool) (xs : List A) (i : ℕ) (x : A) → i < length xs → x ≡ get_or xs i x → list_all p (drop i xs) ≡ (p x && list_all p (drop (i + 1) xs))
list_all_drop p xs i x within is = at_drop_more (list_all p) xs i x within ∙ ap (λ y. p y && list_all p (drop (i + 1) xs)) (sym is)
