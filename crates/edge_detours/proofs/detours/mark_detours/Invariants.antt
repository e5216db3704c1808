use Rattle.std.proofs.Common.{◌+◌, length}
use Rattle.edge_detours.specs.inner.Detours.{IsGoing, AreBegun, unmarked}
use Rattle.fact_rows.specs.Rows.{row}
use Rattle.edge_detours.proofs.detours.mark_detours.Given as goal

abbrev pub invariant-loop-x : goal.invariant-loop-x
invariant-loop-x l = record {
  going : IsGoing l.rows l.start l.high l.fn.marks l.marks l.stack.items;
  begun : AreBegun l.rows l.start l.high (row l.rows l.start) l.marks;
}

abbrev pub decreases-loop-x : goal.decreases-loop-x
decreases-loop-x l = unmarked l.start l.marks + length l.stack.items
