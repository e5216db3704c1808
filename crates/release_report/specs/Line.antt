-- A line of text is the list of its parts and a line end. (Own.)
use Rattle.std.specs.Prelude.{ℕ, List, ◌++◌, codes}
use Rattle.std.specs.List.{concat}

-- the line of these parts, one behind the other
abbrev pub line : List (List ℕ) → List ℕ
line parts = concat parts ++ codes "\n"
