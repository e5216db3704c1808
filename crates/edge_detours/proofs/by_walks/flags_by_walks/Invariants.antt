use Rattle.std.proofs.Common.{take}
use Rattle.edge_detours.specs.inner.Walks.{AreDone}
use Rattle.edge_detours.proofs.by_walks.flags_by_walks.Given as goal

abbrev pub invariant-loop-a : goal.invariant-loop-a
invariant-loop-a l = AreDone l.edges (take l.a-index l.edges) l.flags.items
