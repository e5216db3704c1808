use Rattle.std.proofs.Common.{length}
use Rattle.obo_frames.proofs.ReadingLemmas.{ReadsWaiting}
use Rattle.obo_frames.proofs.lines.read_waiting.Given as goal

abbrev pub invariant-loop-item : goal.invariant-loop-item
invariant-loop-item l = ReadsWaiting l.fn.lines l.fn.so_far l.lines l.so_far

abbrev pub decreases-loop-item : goal.decreases-loop-item
decreases-loop-item l = length l.lines.lines.waiting
