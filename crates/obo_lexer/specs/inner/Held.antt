-- What a feeder's fields stand for. (Own.)
use Rattle.std.specs.Prelude.{ℕ, ◌+◌, ◌≤◌, length}
use Rattle.obo_lexer.specs.declared.feeder.Lines.{Lines}
use Rattle.obo_lexer.specs.Feeding.{Progress}
use Rattle.obo_lexer.specs.Lines.{HasNoLineFeed}
use Rattle.obo_lexer.specs.LineTexts.{HaveLineTexts}

-- how far the lines have come
abbrev pub progress_of : Lines → Progress
progress_of held = record {
  limit = held.limit;
  ended = held.ended;
  rest = held.rest.items;
  waiting = held.waiting.items;
}

-- what holds of a feeder's fields: no line ends in the rest, every text that waits is one of a line, and the
-- ends of lines and the rest are among the bytes that were fed
pub record IsSound (held : Lines) (fed : ℕ) : Type 0 where
  pub no_feed : HasNoLineFeed held.rest.items
  pub texts : HaveLineTexts held.limit held.waiting.items
  pub counted : held.ended + length held.rest.items ≤ fed
