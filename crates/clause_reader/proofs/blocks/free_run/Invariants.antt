use Rattle.std.proofs.Common.{length, ◌-◌}
use Rattle.obo_clause.proofs.FreeLemmas.{RunsFree}
use Rattle.clause_reader.proofs.blocks.free_run.Given as goal

abbrev pub invariant-loop-end : goal.invariant-loop-end
invariant-loop-end l = RunsFree l.at_quote l.marks l.end

abbrev pub decreases-loop-end : goal.decreases-loop-end
decreases-loop-end l = length l.marks - l.end
