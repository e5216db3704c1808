-- The limits of the program. (Own.)
use Rattle.std.specs.Prelude.{ℕ}

-- files in the list of inputs and imports
abbrev pub files : ℕ
files = 256

-- bytes of the listed files together, of the catalog, and of each term file
abbrev pub bytes : ℕ
bytes = 268435456

-- bytes of a line without its end
abbrev pub line : ℕ
line = 1048576

-- lines of a term file
abbrev pub seed_lines : ℕ
seed_lines = 1000000

-- derived facts
abbrev pub facts : ℕ
facts = 67108864
