-- A line that is made of pieces. (Own.)
use Rattle.std.specs.Prelude.{ℕ, List, ◌++◌, codes, decimal}
use Rattle.std.specs.List.{flat_map}
use Rattle.release_report.specs.declared.pieces.Piece.{Piece}
use Rattle.release_report.specs.declared.pieces.Piece.TheVariants.{Text, Number}

-- the bytes of a piece: its text, or its number in decimal
abbrev pub piece_text : Piece → List ℕ
piece_text (Text bytes) = bytes.now
piece_text (Number number) = decimal number

-- the line of these pieces, one behind the other
abbrev pub line_of : List Piece → List ℕ
line_of pieces = flat_map piece_text pieces ++ codes "\n"
