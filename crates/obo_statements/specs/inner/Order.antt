-- Two in the order of a text. (Own.)
use Rattle.std.specs.Prelude.{ℕ, List, if◌then◌else◌, Option, None, Some}
use Rattle.owl_axioms.specs.Proper.{in_order}

-- the text-least first
abbrev pub in_text_order : {X : Type 0} → (X → List ℕ) → X → X → X × X
in_text_order text one other = if in_order (text one) (text other) then (one, other) else (other, one)

-- what is made of the two
abbrev pub IsMadeOf : {F X Y : Type 0} → (F → X → X → Y → Type 0) → F → X × X → Option Y → Type 0
IsMadeOf post make pair None = ⊥
IsMadeOf post make pair (Some made) = post make pair.0 pair.1 made
