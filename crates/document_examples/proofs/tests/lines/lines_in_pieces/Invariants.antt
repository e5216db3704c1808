use Rattle.std.proofs.Common.{◌≡◌, ◌+◌, false, length}
use Rattle.document_examples.proofs.tests.lines.lines_in_pieces.Given as goal

abbrev pub invariant-loop-left : goal.invariant-loop-left
invariant-loop-left l =
    (l.feeder.is_finished ≡ false) × (l.feeder.fed + length l.left ≡ length l.fn.file)

abbrev pub decreases-loop-left : goal.decreases-loop-left
decreases-loop-left l = length l.left
