-- How the next column is found, from left to right. Only private functions speak of it. (Own.)
use Rattle.std.specs.Prelude.{ℕ, Bool, true, not, ◌==◌, List, [], ◌∷◌, drop}
use Rattle.std.specs.List.{prefix_len}
use Rattle.obo_lexer.specs.Tokens.{is_blank}

-- a byte of a column
abbrev pub is_part : ℕ → Bool
is_part byte = not (is_blank byte)

-- what stands behind the blanks
abbrev pub behind_blanks : List ℕ → List ℕ
behind_blanks text = drop (prefix_len is_blank text) text

-- nothing is left, or a comment
abbrev pub is_done : List ℕ → Bool
is_done [] = true
is_done (byte ∷ bytes) = byte == 35
