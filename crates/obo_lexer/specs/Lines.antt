-- The lines of a file, over the whole list of its bytes. A line ends at LF or at the end of the file
-- (OBO Flat File Format 1.4, the file's structure; the byte order mark: The Unicode Standard).
use Rattle.std.specs.Prelude.{◌≡◌, ℕ, ◌==◌, Bool, false, List, [], ◌∷◌, ◌++◌, nat_eq, drop, length, slice_index, take, map, ◌-◌, if◌then◌else◌}
use Rattle.std.specs.List.{list_any, slice_split, starts_with}
use Rattle.rel_io.specs.Texts.{is_line_feed, is_return}

-- no byte of these is LF
abbrev pub HasNoLineFeed : List ℕ → Type 0
HasNoLineFeed bytes = list_any is_line_feed bytes ≡ false

-- a list without its last element
abbrev pub all_but_last : {X : Type 0} → List X → List X
all_but_last [] = []
all_but_last (x ∷ []) = []
all_but_last (x ∷ y ∷ ys) = x ∷ all_but_last (y ∷ ys)

-- the last of some lists, or the empty one
abbrev pub last_part : {X : Type 0} → List (List X) → List X
last_part [] = []
last_part (x ∷ []) = x
last_part (x ∷ y ∷ ys) = last_part (y ∷ ys)

-- the lines that an LF ends, in order and without it: all parts between LFs but the last
abbrev pub ended_lines : List ℕ → List (List ℕ)
ended_lines bytes = all_but_last (slice_split is_line_feed bytes)

-- what stands behind the last LF, or all bytes where there is none
abbrev pub rest_of : List ℕ → List ℕ
rest_of bytes = last_part (slice_split is_line_feed bytes)

-- the lines with their ends, and then the rest: what a file is written of
abbrev pub written : List (List ℕ) → List ℕ → List ℕ
written [] rest = rest
written (line ∷ lines) rest = line ++ 10 ∷ written lines rest

-- the rest as the last line of a file: an empty rest is none
abbrev pub last_line : List ℕ → List (List ℕ)
last_line [] = []
last_line (byte ∷ bytes) = (byte ∷ bytes) ∷ []

-- the byte order mark in UTF-8, EF BB BF
abbrev pub byte_order_mark : List ℕ
byte_order_mark = 239 ∷ 187 ∷ 191 ∷ []

-- the bytes behind a byte order mark, or all where they do not begin with one
abbrev pub without_mark : List ℕ → List ℕ
without_mark bytes = if starts_with nat_eq bytes byte_order_mark then drop 3 bytes else bytes

-- each line of a file, as its bytes without the end: a byte order mark belongs to no line
abbrev pub file_lines : List ℕ → List (List ℕ)
file_lines bytes = ended_lines (without_mark bytes) ++ last_line (rest_of (without_mark bytes))

-- a line without the one CR that may stand directly before its end
abbrev pub without_return : List ℕ → List ℕ
without_return line =
    if is_return (slice_index line (length line - 1)) then take (length line - 1) line else line

-- a byte as the text of a line has it: a CR counts as a space
abbrev pub shown : ℕ → ℕ
shown byte = if is_return byte then 32 else byte

-- the text of a line: one CR before the end is dropped, every other CR is a space
abbrev pub text_of : List ℕ → List ℕ
text_of line = map shown (without_return line)
