-- The terms of a file: a line has one term, or none. All lines, comments too, are UTF-8 and within the limit of a line, and
-- there are at most so many. A term is an id as it stands, without escapes, and is read in the ontology. (Own.)
use Rattle.std.specs.Prelude.{ℕ, ◌+◌, ◌&&◌, if◌then◌else◌, List, [], ◌∷◌, ◌++◌, nat_le, Option, None, Some, Result, Ok, Err}
use Rattle.iri_map.specs.Id.{iri_of}
use Rattle.rel_io.specs.Limits as limits
use Rattle.text_columns.specs.Columns.{columns_of, is_plain}
use Rattle.text_columns.specs.Lines.{text_lines}

-- the IRI of the term in these columns, if there is one, unless they are refused
abbrev pub columns_say : List ℕ → List (List ℕ) → Option (List (List ℕ))
columns_say ontology [] = Some []
columns_say ontology (term ∷ []) = Some (iri_of term ontology ∷ [])
columns_say ontology (term ∷ more ∷ columns) = None

-- the same of a line of this number, of so many that there may be
unfoldable pub line_says : List ℕ → ℕ → ℕ → List ℕ → Option (List (List ℕ))
line_says ontology lines number line = if nat_le number lines && is_plain limits.line line then columns_say ontology (columns_of line) else None

-- a line of this number before others
abbrev pub with_line : ℕ → Option (List (List ℕ)) → Result (List (List ℕ)) ℕ → Result (List (List ℕ)) ℕ
with_line number None others = Err number
with_line number (Some said) (Ok iris) = Ok (said ++ iris)
with_line number (Some said) (Err refused) = Err refused

-- the IRIs of lines that are numbered from here on, or the number of the least that is refused
abbrev pub lines_say : List ℕ → ℕ → ℕ → List (List ℕ) → Result (List (List ℕ)) ℕ
lines_say ontology lines number [] = Ok []
lines_say ontology lines number (line ∷ rest) = with_line number (line_says ontology lines number line) (lines_say ontology lines (number + 1) rest)

-- the IRIs of the terms of a file, in their order, or the number of its least refused line
unfoldable pub iris_of : List ℕ → ℕ → List ℕ → Result (List (List ℕ)) ℕ
iris_of ontology lines bytes = lines_say ontology lines 1 (text_lines bytes)
