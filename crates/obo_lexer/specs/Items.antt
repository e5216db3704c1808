-- The lines of a file as they are handed on: numbered from 1, each with its text or what is wrong with it. (Own.)
use Rattle.std.specs.Prelude.{◌≡◌, ℕ, ◌+◌, ◌≤◌, false, List, [], ◌∷◌, length, nat_lt, if◌then◌else◌}
use Rattle.std.specs.List.{list_any}
use Rattle.std.specs.Str.{IsUtf8, is_utf8}
use Rattle.obo_lexer.specs.declared.line.LineBody.{LineBody}
use Rattle.obo_lexer.specs.declared.line.LineBody.TheVariants.{NotUtf8, Text, TooLong}
use Rattle.obo_lexer.specs.declared.line.LineItem.{LineItem}
use Rattle.rel_io.specs.Texts.{is_line_feed, is_return}
use Rattle.obo_lexer.specs.Lines.{file_lines, text_of}

-- the body of a line: NotUtf8 where its text is no UTF-8, otherwise TooLong where that has more bytes
-- than the limit, otherwise the text
abbrev pub body_of : ℕ → List ℕ → LineBody
body_of limit line =
    let text = text_of line in
    if is_utf8 text then (if nat_lt limit (length text) then TooLong else Text text) else NotUtf8

-- what every text of a line is
pub record IsLineText (limit : ℕ) (text : List ℕ) : Type 0 where
  pub utf8 : IsUtf8 text
  pub within : length text ≤ limit
  pub no_line_feed : list_any is_line_feed text ≡ false
  pub no_return : list_any is_return text ≡ false

-- a body that is a text, if it is one, is such a text
abbrev pub HasLineText : ℕ → LineBody → Type 0
HasLineText limit (Text text) = IsLineText limit text
HasLineText limit NotUtf8 = Unit {0}
HasLineText limit TooLong = Unit {0}

-- the lines as items, numbered from the given number on
abbrev pub numbered : ℕ → ℕ → List (List ℕ) → List LineItem
numbered limit number [] = []
numbered limit number (line ∷ lines) =
    record { number = number; body = body_of limit line } ∷ numbered limit (number + 1) lines

-- the lines of a file
abbrev pub lines_of : ℕ → List ℕ → List LineItem
lines_of limit bytes = numbered limit 1 (file_lines bytes)
