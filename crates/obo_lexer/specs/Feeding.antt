-- How a feeder goes on: what it is after a piece, after the end of the file and after it met want of memory. (Own.)
use Rattle.std.specs.Prelude.{ℕ, ◌+◌, ◌==◌, Bool, true, false, List, [], ◌∷◌, ◌++◌, length, if◌then◌else◌}
use Rattle.obo_lexer.specs.declared.line.LineItem.{LineItem}
use Rattle.obo_lexer.specs.Items.{body_of}
use Rattle.obo_lexer.specs.Lines.{ended_lines, rest_of, without_mark}

-- how far the lines of a file have come
pub record Progress : Type 0 where
  -- the most bytes that a line may have
  pub limit : ℕ
  -- how many lines have ended
  pub ended : ℕ
  -- the bytes behind the last end of a line
  pub rest : List ℕ
  -- the ended lines that nobody has taken yet, the oldest first
  pub waiting : List LineItem

-- a feeder, as contracts see it
pub record Feeder : Type 0 where
  pub lines : Progress
  -- how many bytes were fed
  pub fed : ℕ
  -- whether the end of the file was told
  pub is_finished : Bool
  -- whether memory was wanting once
  pub is_spent : Bool

-- a line behind so many others: the first line of a file does not have the byte order mark
abbrev pub unmarked : ℕ → List ℕ → List ℕ
unmarked before line = if before == 0 then without_mark line else line

-- a line behind so many others, as an item
abbrev pub item_behind : ℕ → ℕ → List ℕ → LineItem
item_behind limit before line = record { number = before + 1; body = body_of limit (unmarked before line) }

-- lines behind so many others, as items
abbrev pub items_behind : ℕ → ℕ → List (List ℕ) → List LineItem
items_behind limit before [] = []
items_behind limit before (line ∷ lines) = item_behind limit before line ∷ items_behind limit (before + 1) lines

-- a file of which nothing is read
abbrev pub begun : ℕ → Progress
begun limit = record { limit = limit; ended = 0; rest = []; waiting = [] }

-- these lines end, and these bytes stand behind them
abbrev pub ended_with : Progress → List (List ℕ) → List ℕ → Progress
ended_with p lines rest = record {
  limit = p.limit;
  ended = p.ended + length lines;
  rest = rest;
  waiting = p.waiting ++ items_behind p.limit p.ended lines;
}

-- a piece of the file comes
abbrev pub fed_with : Progress → List ℕ → Progress
fed_with p piece = ended_with p (ended_lines (p.rest ++ piece)) (rest_of (p.rest ++ piece))

-- the file ends: a rest that is not empty, and more than a byte order mark, is its last line
abbrev pub finished : Progress → Progress
finished p =
    ended_with p (if length (unmarked p.ended p.rest) == 0 then [] else p.rest ∷ []) []

-- a feeder to which nothing was fed
abbrev pub fresh : ℕ → Feeder
fresh limit = record { lines = begun limit; fed = 0; is_finished = false; is_spent = false }

-- a feeder after a piece
abbrev pub after_piece : Feeder → List ℕ → Feeder
after_piece f piece = record f { lines = fed_with f.lines piece; fed = f.fed + length piece }

-- a feeder after the end of the file
abbrev pub after_end : Feeder → Feeder
after_end f = record f { lines = finished f.lines; is_finished = true }

-- a feeder before its oldest waiting line was taken
abbrev pub with_first : LineItem → Feeder → Feeder
with_first line f = record f { lines = record f.lines { waiting = line ∷ f.lines.waiting } }

-- a feeder after want of memory: it keeps no line
abbrev pub spent : Feeder → Feeder
spent f = record f { lines = begun f.lines.limit; is_spent = true }
