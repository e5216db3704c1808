use Rattle.std.proofs.Common.{take}
use Rattle.edge_detours.specs.Reach.{AreWithin}
use Rattle.edge_detours.proofs.rows.are_within.Given as goal

abbrev pub invariant-loop-a : goal.invariant-loop-a
invariant-loop-a l = AreWithin l.node_count (take l.a-index l.edges)
