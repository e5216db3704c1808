use Rattle.std.proofs.Common.{take}
use Rattle.edge_detours.specs.inner.Flags.{Flags}
use Rattle.edge_detours.proofs.by_ranks.flag_marked.Given as goal

abbrev pub invariant-loop-c : goal.invariant-loop-c
invariant-loop-c l = Flags (take l.c-index l.targets) l.start l.marks l.fn.flags l.flags
