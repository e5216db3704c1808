-- Texts put together part by part, as they are written. (Own.)
use Rattle.std.specs.Prelude.{ℕ, Bool, true, false, List, [], ◌++◌, codes, flat_map}

-- what stands before a part: a space, but before the first
unfoldable pub gap : Bool → List ℕ
gap true = []
gap false = codes " "

-- parts with a space behind each
abbrev pub spaced : List (List ℕ) → List ℕ
spaced parts = flat_map (λ part. part ++ codes " ") parts

-- a word, its bracket, and the first of what it takes, with a space behind each
unfoldable pub opening : List ℕ → List (List ℕ) → List ℕ
opening word parts = word ++ codes "(" ++ spaced parts

-- the last part, the last two and the last three, and the bracket behind them
unfoldable pub end_one : List ℕ → List ℕ
end_one a = a ++ codes ")"

unfoldable pub end_two : List ℕ → List ℕ → List ℕ
end_two a b = a ++ (codes " " ++ end_one b)

unfoldable pub end_three : List ℕ → List ℕ → List ℕ → List ℕ
end_three a b c = a ++ (codes " " ++ end_two b c)
