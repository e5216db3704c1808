use Rattle.std.proofs.Common.{◌≡◌, ◌+◌, length}
use Rattle.document_examples.proofs.tests.pieces.read_in_pieces.Given as goal

abbrev pub invariant-loop-left : goal.invariant-loop-left
invariant-loop-left l = l.feeder.fed + length l.left ≡ length l.fn.file

abbrev pub decreases-loop-left : goal.decreases-loop-left
decreases-loop-left l = length l.left
