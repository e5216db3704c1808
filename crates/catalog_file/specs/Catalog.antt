-- A catalog: each line of two columns says in which file an import is found. A line without columns says nothing, and every
-- other line is refused. All lines, comments too, are UTF-8 and within the limit of a line. (Own.)
use Rattle.std.specs.Prelude.{◌≡◌, ℕ, ◌+◌, if◌then◌else◌, List, [], ◌∷◌, ◌++◌, Option, None, Some, Result, Ok, Err}
use Rattle.text_columns.specs.Columns.{columns_of, is_plain}
use Rattle.text_columns.specs.Lines.{text_lines}
use Rattle.catalog_file.specs.declared.catalog.CatalogFault.{CatalogFault}
use Rattle.catalog_file.specs.declared.catalog.CatalogFault.TheVariants.{Refused, NoMemory}
use Rattle.catalog_file.specs.declared.catalog.CatalogLine.{CatalogLine}

-- what these columns say, unless they are refused
abbrev pub columns_say : List (List ℕ) → Option (List CatalogLine)
columns_say [] = Some []
columns_say (value ∷ []) = None
columns_say (value ∷ name ∷ []) = Some (record { value = value; name = name } ∷ [])
columns_say (value ∷ name ∷ more ∷ columns) = None

-- what a line says, unless it is refused
unfoldable pub line_says : ℕ → List ℕ → Option (List CatalogLine)
line_says limit line = if is_plain limit line then columns_say (columns_of line) else None

-- a line of this number before others
abbrev pub with_line : ℕ → Option (List CatalogLine) → Result (List CatalogLine) ℕ → Result (List CatalogLine) ℕ
with_line number None others = Err number
with_line number (Some said) (Ok lines) = Ok (said ++ lines)
with_line number (Some said) (Err refused) = Err refused

-- what lines numbered from here on say, or the number of the least that is refused
abbrev pub lines_say : ℕ → ℕ → List (List ℕ) → Result (List CatalogLine) ℕ
lines_say limit number [] = Ok []
lines_say limit number (line ∷ lines) = with_line number (line_says limit line) (lines_say limit (number + 1) lines)

-- the catalog of these bytes, with lines of at most so many bytes, or the number of its least refused line
unfoldable pub catalog_of : ℕ → List ℕ → Result (List CatalogLine) ℕ
catalog_of limit bytes = lines_say limit 1 (text_lines bytes)

-- what an answer to reading a catalog says
abbrev pub ReadsCatalog : ℕ → List ℕ → Result (List CatalogLine) CatalogFault → Type 0
ReadsCatalog limit bytes (Ok lines) = catalog_of limit bytes ≡ Ok lines
ReadsCatalog limit bytes (Err (Refused line)) = catalog_of limit bytes ≡ Err line
ReadsCatalog limit bytes (Err NoMemory) = Unit {0}
