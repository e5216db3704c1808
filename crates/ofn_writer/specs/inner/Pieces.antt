-- Texts that are printed one behind the other into one buffer, and cut out of it again by their lengths. (Own.)
use Rattle.std.specs.Prelude.{◌≡◌, ◌≤◌, ℕ, List, [], ◌∷◌, drop, length, map, take}
use Rattle.std.specs.List.{flat_map}

-- the buffer has these texts, and the lengths are theirs
pub record AreIn (texts : List (List ℕ)) (buffer lengths : List ℕ) : Type 0 where
  pub bytes : buffer ≡ flat_map (λ text. text) texts
  pub each : lengths ≡ map length texts

-- the pieces with these lengths, from the front
abbrev pub pieces : List ℕ → List ℕ → List (List ℕ)
pieces bytes [] = []
pieces bytes (n ∷ lengths) = take n bytes ∷ pieces (drop n bytes) lengths

-- they reach no further than the bytes
abbrev pub Fit : List ℕ → List ℕ → Type 0
Fit bytes [] = Unit {0}
Fit bytes (n ∷ lengths) = (n ≤ length bytes) × Fit (drop n bytes) lengths
