-- What the definitions of lines and of feeders amount to. (Own.)
use Rattle.std.specs.Prelude.{◌≡◌, ℕ, ◌+◌, false, nat_eq, List, [], ◌∷◌, ◌++◌}
use Rattle.std.specs.List.{All, starts_with}
use Rattle.obo_lexer.specs.declared.line.LineBody.TheVariants.{Text}
use Rattle.obo_lexer.specs.declared.line.LineItem.{LineItem}
use Rattle.obo_lexer.specs.Feeding.{Feeder, after_end, after_piece, fresh, with_first}
use Rattle.obo_lexer.specs.Items.{IsLineText, lines_of, numbered}
use Rattle.obo_lexer.specs.Lines.{HasNoLineFeed, byte_order_mark, ended_lines, rest_of, without_mark, written}

-- the ended lines and the rest, written one after the other, are the bytes, and none of them has an LF
pub record LinesAreWritten (bytes : List ℕ) : Type 0 where
  pub joined : written (ended_lines bytes) (rest_of bytes) ≡ bytes
  pub lines : All HasNoLineFeed (ended_lines bytes)
  pub rest : HasNoLineFeed (rest_of bytes)

-- no other lines and rest without LF are written as these bytes
abbrev pub LinesAreOnly : List ℕ → Type 0
LinesAreOnly bytes =
    (lines : List (List ℕ)) (rest : List ℕ) → All HasNoLineFeed lines → HasNoLineFeed rest → written lines rest ≡ bytes → (lines ≡ ended_lines bytes) × (rest ≡ rest_of bytes)

-- feeding a piece and then another is feeding both together
abbrev pub PiecesJoin : Type 0
PiecesJoin = (f : Feeder) (x y : List ℕ) → after_piece (after_piece f x) y ≡ after_piece f (x ++ y)

-- a feeder to which these bytes were fed, in some pieces, and from which these lines were taken, at any time
pub data Run (limit : ℕ) : List ℕ → List LineItem → Feeder → Type 0 where
  starting : Run limit [] [] (fresh limit)
  feeding : (bytes : List ℕ) (taken : List LineItem) (f : Feeder) (piece : List ℕ) → Run limit bytes taken f → Run limit (bytes ++ piece) taken (after_piece f piece)
  taking : (bytes : List ℕ) (taken : List LineItem) (line : LineItem) (f : Feeder) → Run limit bytes taken (with_first line f) → Run limit bytes (taken ++ line ∷ []) f

-- however the bytes were cut: the lines taken, followed by those that wait, are the ended lines of the bytes
-- fed, and after the end of the file they are all its lines
pub record RunGivesLines (limit : ℕ) (bytes : List ℕ) (taken : List LineItem) (f : Feeder) : Type 0 where
  pub ended : taken ++ f.lines.waiting ≡ numbered limit 1 (ended_lines (without_mark bytes))
  pub all : taken ++ (after_end f).lines.waiting ≡ lines_of limit bytes

abbrev pub RunsGiveLines : Type 0
RunsGiveLines =
    (limit : ℕ) (bytes : List ℕ) (taken : List LineItem) (f : Feeder) → Run limit bytes taken f → RunGivesLines limit bytes taken f

-- the lines as items, each with itself as its text
abbrev pub as_texts : ℕ → List (List ℕ) → List LineItem
as_texts number [] = []
as_texts number (line ∷ lines) = record { number = number; body = Text line } ∷ as_texts (number + 1) lines

-- lines that are texts, written with their ends, are read as themselves, where no byte order mark begins them
abbrev pub WrittenLinesAreRead : Type 0
WrittenLinesAreRead =
    (limit : ℕ) (lines : List (List ℕ)) → All (IsLineText limit) lines → starts_with nat_eq (written lines []) byte_order_mark ≡ false → lines_of limit (written lines []) ≡ as_texts 1 lines
