-- Items taken out of a list, by what each of them is as a part. (Own.)
use Rattle.std.specs.Prelude.{◌≡◌, ◌⊎◌, List, [], ◌∷◌, Option, None, Some}
use Rattle.std.specs.Option.{option_and_then, option_map, option_or}
use Rattle.text_sets.specs.Sets.{In}

-- the first answer that there is
abbrev pub first_some : {X Y : Type 0} → (X → Option Y) → List X → Option Y
first_some f [] = None
first_some f (x ∷ xs) = option_or (f x) (first_some f xs)

-- what is taken, and what is left
pub record Taken (X Y : Type 0) : Type 0 where
  pub parts : List Y
  pub rest : List X

abbrev pub taken : {X Y : Type 0} → List Y → List X → Taken X Y
taken parts rest = record { parts = parts; rest = rest }

-- one more item in front, which is left or is the one part
abbrev pub take_one_more : {X Y : Type 0} → X → List X → Option Y → Taken X Y → Taken X Y
take_one_more x xs None more = taken more.parts (x ∷ more.rest)
take_one_more x xs (Some y) more = taken (y ∷ []) xs

-- the first item that is such a part
abbrev pub take_one : {X Y : Type 0} → (X → Option Y) → List X → Taken X Y
take_one part [] = taken [] []
take_one part (x ∷ xs) = take_one_more x xs (part x) (take_one part xs)

-- one more item in front, which is left or is a part
abbrev pub take_all_more : {X Y : Type 0} → X → Option Y → Taken X Y → Taken X Y
take_all_more x None more = taken more.parts (x ∷ more.rest)
take_all_more x (Some y) more = taken (y ∷ more.parts) more.rest

-- all items that are such parts
abbrev pub take_all : {X Y : Type 0} → (X → Option Y) → List X → Taken X Y
take_all part [] = taken [] []
take_all part (x ∷ xs) = take_all_more x (part x) (take_all part xs)

-- each item as a part, where all are
abbrev pub each_some : {X Y : Type 0} → (X → Option Y) → List X → Option (List Y)
each_some part [] = Some []
each_some part (x ∷ xs) = option_and_then (λ y. option_map (λ ys. y ∷ ys) (each_some part xs)) (part x)

-- a part stands for its item
abbrev pub StandsFor : {X Y : Type 0} → (X → Option Y) → (Y → X) → Type 0
StandsFor part back = (x : _) (y : _) → part x ≡ Some y → back y ≡ x

-- the items are those of the parts and those that are left
pub record Splits {X : Type 0} (xs taken left : List X) : Type 0 where
  pub each : (x : X) → In x xs → In x taken ⊎ In x left
  pub own : (x : X) → In x taken → In x xs
  pub rest : (x : X) → In x left → In x xs
