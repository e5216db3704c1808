use Rattle.std.proofs.Common.{take}
use Rattle.edge_detours.specs.inner.Roots.{ReachesSame}
use Rattle.edge_detours.proofs.ranks.reach_same.Given as goal

abbrev pub invariant-loop-y : goal.invariant-loop-y
invariant-loop-y l = ReachesSame (take l.y-index l.targets) l.ranks l.x l.fn.flags l.flags l.fn.stack.items l.stack.items
