-- Lists as sets: what is in them, whatever the order and the repeats. (Own.)
use Rattle.std.specs.Prelude.{◌≡◌, ◌⊎◌, ◌↔◌, List, [], ◌∷◌}

-- the item is in the list
abbrev pub In : {X : Type 0} → X → List X → Type 0
In x [] = ⊥
In x (y ∷ ys) = (y ≡ x) ⊎ In x ys

-- two lists have the same members
abbrev pub SameMembers : {X : Type 0} → List X → List X → Type 0
SameMembers some others = (x : _) → In x some ↔ In x others

-- no two of the items have one key
abbrev pub AreTold : {X K : Type 0} → (X → K) → List X → Type 0
AreTold key xs = (x y : _) → In x xs → In y xs → key x ≡ key y → x ≡ y
