use Rattle.std.proofs.Common.{◌≡◌, take}
use Rattle.edge_detours.specs.inner.Rows.{swapped}
use Rattle.edge_detours.proofs.rows.swapped_edges.Given as goal

abbrev pub invariant-loop-a : goal.invariant-loop-a
invariant-loop-a l = l.made.items ≡ swapped (take l.a-index l.edges)
