use Rattle.std.proofs.Common.{◌+◌, ◌≡◌, length}
use Rattle.edge_detours.specs.inner.Detours.{unmarked}
use Rattle.edge_detours.specs.inner.Walks.{IsWalking}
use Rattle.edge_detours.proofs.by_walks.mark_reached.Given as goal

abbrev pub invariant-loop-x : goal.invariant-loop-x
invariant-loop-x l = record {
  long : length l.marks ≡ l.node_count;
  walking : IsWalking l.rows l.start l.node_count l.marks l.stack.items;
}

abbrev pub decreases-loop-x : goal.decreases-loop-x
decreases-loop-x l = unmarked 1 l.marks + length l.stack.items
