use Rattle.std.proofs.Common.{◌≡◌, length, take}
use Rattle.edge_detours.specs.inner.Rows.{AreRows}
use Rattle.edge_detours.proofs.rows.rows_of.Given as goal

abbrev pub invariant-loop-i : goal.invariant-loop-i
invariant-loop-i l = record {
  long : length l.rows.items ≡ l.node_count;
  rows : AreRows (take l.i l.edges) l.rows.items;
}
