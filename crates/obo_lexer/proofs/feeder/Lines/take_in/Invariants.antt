use Rattle.std.proofs.Common.{◌≡◌, ◌+◌, ◌≤◌, length}
use Rattle.obo_lexer.specs.Feeding.{fed_with}
use Rattle.obo_lexer.specs.inner.Held.{progress_of}
use Rattle.obo_lexer.specs.Lines.{HasNoLineFeed}
use Rattle.obo_lexer.proofs.feeder.Lines.take_in.Given as goal

abbrev pub invariant-loop-at : goal.invariant-loop-at
invariant-loop-at l = record {
  same : fed_with (progress_of l.self) l.left ≡ fed_with (progress_of l.fn.self) l.fn.piece;
  limit : l.self.limit ≡ l.fn.self.limit;
  no_feed : HasNoLineFeed l.self.rest.items;
  counted : l.self.ended + length l.self.rest.items + length l.left ≤ l.fn.self.ended + length l.fn.self.rest.items + length l.fn.piece;
  few : l.self.ended + length l.left ≤ l.fn.self.ended + length l.fn.piece;
}

abbrev pub decreases-loop-at : goal.decreases-loop-at
decreases-loop-at l = length l.left
