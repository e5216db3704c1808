-- The columns of a line: what stands between its blanks, spaces and tabs, before a comment. A `#` opens a comment at the
-- line's beginning and behind a blank. (Own.)
use Rattle.std.specs.Prelude.{◌≡◌, ℕ, Bool, true, false, not, ◌==◌, ◌&&◌, if◌then◌else◌, List, [], ◌∷◌, Option, None, Some, filter, length, nat_lt}
use Rattle.std.specs.Borrow.{Bor}
use Rattle.std.specs.List.{slice_split}
use Rattle.std.specs.Str.{is_utf8}
use Rattle.obo_lexer.specs.Tokens.{is_blank}

-- the part has a byte
abbrev pub is_filled : List ℕ → Bool
is_filled [] = false
is_filled (byte ∷ bytes) = true

-- the part begins with `#`
abbrev pub opens_comment : List ℕ → Bool
opens_comment [] = false
opens_comment (byte ∷ bytes) = byte == 35

-- the parts before the first that opens a comment
abbrev pub before_comment : List (List ℕ) → List (List ℕ)
before_comment [] = []
before_comment (part ∷ parts) = if opens_comment part then [] else part ∷ before_comment parts

unfoldable pub columns_of : List ℕ → List (List ℕ)
columns_of line = before_comment (filter is_filled (slice_split is_blank line))

-- the first column and what stands behind it, if there is a column
abbrev pub IsNextColumn : List ℕ → Option (Bor (List ℕ) × Bor (List ℕ)) → Type 0
IsNextColumn text None = columns_of text ≡ []
IsNextColumn text (Some parts) = columns_of text ≡ parts.0.now ∷ columns_of parts.1.now

-- a line that may stand there: UTF-8, and within the limit
abbrev pub is_plain : ℕ → List ℕ → Bool
is_plain limit line = is_utf8 line && not (nat_lt limit (length line))
