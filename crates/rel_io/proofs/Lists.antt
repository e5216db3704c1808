-- Lists and what is left of them behind a place.
use Rattle.std.proofs.Common.{◌≡◌, ℕ, ◌-◌, List, length, take, drop, arith, length-drop}
use Rattle.std.proofs.lemmas.List.{take_all}

-- all that is left behind a place
pub take_rest : {A : Type 0} (k : ℕ) (xs : List A) → take (length xs - k) (drop k xs) ≡ drop k xs
take_rest k xs = take_all _ _ (omega (arith, length-drop k xs))
