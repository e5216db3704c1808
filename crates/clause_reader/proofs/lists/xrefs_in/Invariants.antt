use Rattle.std.proofs.Common.{length, suc}
use Rattle.clause_reader.proofs.LoopLemmas.{ListsOn}
use Rattle.clause_reader.proofs.lists.xrefs_in.Given as goal

abbrev pub invariant-loop : goal.invariant-loop
invariant-loop l = ListsOn l.fn.marks (suc (length l.fn.marks)) l.xrefs.items l.rest l.counter
