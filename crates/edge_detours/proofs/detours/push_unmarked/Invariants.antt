use Rattle.std.proofs.Common.{take}
use Rattle.edge_detours.specs.inner.Detours.{Pushes}
use Rattle.edge_detours.proofs.detours.push_unmarked.Given as goal

abbrev pub invariant-loop-c : goal.invariant-loop-c
invariant-loop-c l = Pushes (take l.c-index l.targets) l.low l.high l.mark l.fn.marks l.marks l.fn.stack.items l.stack.items
