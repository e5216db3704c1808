use Rattle.std.proofs.Common.{◌≡◌, ◌+◌, ◌^◌, ◌<◌, length}
use Rattle.obo_frames.specs.Feeding as feeding
use Rattle.obo_frames.proofs.reading.read_piece.Given as goal

abbrev pub invariant-loop-left : goal.invariant-loop-left
invariant-loop-left l = record {
  same : feeding.read_piece l.reading l.left ≡ feeding.read_piece l.fn.reading l.fn.piece;
  few : l.reading.lines.fed + length l.left < 2 ^ 32;
}

abbrev pub decreases-loop-left : goal.decreases-loop-left
decreases-loop-left l = length l.left
