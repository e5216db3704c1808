-- The two parts of a text around a separator, and what stands behind a beginning or before an end. (Own.)
use Rattle.std.specs.Prelude.{ℕ, ◌-◌, ◌==◌, nat_eq, List, [], ◌∷◌, length, take, drop, if◌then◌else◌, Option, Some, None}
use Rattle.std.specs.Borrow.{Bor}
use Rattle.std.specs.List.{starts_with, ends_with}
use Rattle.std.specs.Option.{option_map, option_or}

-- what stands before a separator, and what stands after it
abbrev pub Parts : Type 0
Parts = List ℕ × List ℕ

-- the parts, with b put before the first
abbrev pub onto_front : ℕ → Parts → Parts
onto_front b parts = (b ∷ parts.0, parts.1)

-- the parts around the first separator
abbrev pub split_at_first : ℕ → List ℕ → Option Parts
split_at_first separator [] = None
split_at_first separator (b ∷ bs) =
    if b == separator then Some ([], bs) else option_map (onto_front b) (split_at_first separator bs)

-- the parts around the last separator: b is the last one where none follows it
abbrev pub split_at_last : ℕ → List ℕ → Option Parts
split_at_last separator [] = None
split_at_last separator (b ∷ bs) =
    option_or (option_map (onto_front b) (split_at_last separator bs))
    (if b == separator then Some ([], bs) else None)

-- what stands behind a beginning
abbrev pub after_start : List ℕ → List ℕ → Option (List ℕ)
after_start start bytes =
    if starts_with nat_eq bytes start then Some (drop (length start) bytes) else None

-- what stands before an end
abbrev pub before_end : List ℕ → List ℕ → Option (List ℕ)
before_end end bytes =
    if ends_with nat_eq bytes end then Some (take (length bytes - length end) bytes) else None

-- the texts that two lent parts are
abbrev pub parts_lent : Option (Bor (List ℕ) × Bor (List ℕ)) → Option Parts
parts_lent lent = option_map (λ (parts : Bor (List ℕ) × Bor (List ℕ)). (parts.0.now, parts.1.now)) lent
