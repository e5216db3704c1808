-- Whether lines have such texts as every text of a line is, as a test. (Own.)
use Rattle.std.specs.Prelude.{◌≡◌, ℕ, Bool, true, not, ◌&&◌, List, length, nat_lt}
use Rattle.std.specs.List.{list_all, list_any}
use Rattle.std.specs.Str.{is_utf8}
use Rattle.obo_lexer.specs.declared.line.LineBody.{LineBody}
use Rattle.obo_lexer.specs.declared.line.LineBody.TheVariants.{NotUtf8, Text, TooLong}
use Rattle.obo_lexer.specs.declared.line.LineItem.{LineItem}
use Rattle.rel_io.specs.Texts.{is_line_feed, is_return}

-- whether a body is a text as every text of a line is, or none
abbrev pub has_line_text : ℕ → LineBody → Bool
has_line_text limit (Text text) =
    is_utf8 text && (not (nat_lt limit (length text)) && (not (list_any is_line_feed text) && not (list_any is_return text)))
has_line_text limit NotUtf8 = true
has_line_text limit TooLong = true

-- the items have such bodies
abbrev pub HaveLineTexts : ℕ → List LineItem → Type 0
HaveLineTexts limit lines = list_all (λ line. has_line_text limit line.body) lines ≡ true
