use Rattle.std.proofs.Common.{◌≡◌, false, replicate}
use Rattle.el_part.proofs.closure.lowered.Given as goal

abbrev pub invariant-loop-made : goal.invariant-loop-made
invariant-loop-made l = l.flags.items ≡ replicate l._made false
