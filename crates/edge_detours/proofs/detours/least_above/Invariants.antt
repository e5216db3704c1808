use Rattle.std.proofs.Common.{take}
use Rattle.edge_detours.proofs.DetourLemmas.{AreFrom}
use Rattle.edge_detours.proofs.detours.least_above.Given as goal

abbrev pub invariant-loop-c : goal.invariant-loop-c
invariant-loop-c l = AreFrom (take l.c-index l.targets) l.start l.low
