use Rattle.std.proofs.Common.{length, suc}
use Rattle.clause_reader.proofs.LoopLemmas.{BlocksOn}
use Rattle.clause_reader.proofs.blocks.qualifiers_in.Given as goal

abbrev pub invariant-loop : goal.invariant-loop
invariant-loop l = BlocksOn l.fn.marks (suc (length l.fn.marks)) l.qualifiers.items l.rest l.counter
