use Rattle.std.proofs.Common.{take}
use Rattle.edge_detours.proofs.DetourLemmas.{AreAllMarked}
use Rattle.edge_detours.proofs.detours.all_marked.Given as goal

abbrev pub invariant-loop-c : goal.invariant-loop-c
invariant-loop-c l = AreAllMarked (take l.c-index l.targets) l.low l.start l.marks
