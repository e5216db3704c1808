-- Numbers of seven digits, as ASCII. (Own.)
use Rattle.std.specs.Prelude.{ℕ, ◌+◌, ◌/◌, ◌%◌, List, [], ◌∷◌}

-- the last digit of a number
abbrev pub last_digit : ℕ → ℕ
last_digit number = 48 + number % 10

-- its last seven digits
unfoldable pub seven_digits : ℕ → List ℕ
seven_digits number =
    last_digit (number / 1000000) ∷ last_digit (number / 100000) ∷ last_digit (number / 10000) ∷ last_digit (number / 1000)
    ∷ last_digit (number / 100) ∷ last_digit (number / 10) ∷ last_digit number ∷ []
