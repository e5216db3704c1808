-- Items of a list, by recursion on the list, as proofs about walks and derivations need them. (Own.)
use Rattle.std.specs.Prelude.{List, [], ◌∷◌}

-- x stands in the list
pub data In {A : Type 0} (x : A) : List A → Type 0 where
  here : {xs : List A} → In x (x ∷ xs)
  there : {y : A} {xs : List A} → In x xs → In x (y ∷ xs)

-- no item stands there twice
pub data NoRepeats {A : Type 0} : List A → Type 0 where
  none : NoRepeats []
  more : {x : A} {xs : List A} → (In x xs → ⊥) → NoRepeats xs → NoRepeats (x ∷ xs)
