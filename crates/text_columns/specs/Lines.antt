-- The lines of a catalog or a term file. A line ends at LF or at the end of the file, and no line follows the last LF. One CR directly
-- before the end is dropped; every other byte belongs to its line, those of a byte order mark too. (Own.)
use Rattle.std.specs.Prelude.{◌≡◌, ℕ, List, ◌∷◌, ◌++◌, map}
use Rattle.obo_lexer.specs.Lines.{ended_lines, last_line, rest_of, without_return}

abbrev pub text_lines : List ℕ → List (List ℕ)
text_lines bytes = map without_return (ended_lines bytes ++ last_line (rest_of bytes))

-- the first line and what stands behind it
abbrev pub CutsLine : List ℕ → List ℕ → List ℕ → Type 0
CutsLine bytes line rest = text_lines bytes ≡ without_return line ∷ text_lines rest
