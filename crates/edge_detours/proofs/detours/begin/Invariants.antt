use Rattle.std.proofs.Common.{take}
use Rattle.edge_detours.specs.inner.Detours.{IsGoing, AreBegun}
use Rattle.edge_detours.proofs.detours.begin.Given as goal

abbrev pub invariant-loop-d : goal.invariant-loop-d
invariant-loop-d l = record {
  going : IsGoing l.rows l.start l.high l.fn.marks l.marks l.stack.items;
  begun : AreBegun l.rows l.start l.high (take l.d-index l.firsts) l.marks;
}
