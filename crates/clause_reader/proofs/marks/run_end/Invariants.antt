use Rattle.std.proofs.Common.{length, ◌-◌}
use Rattle.obo_clause.specs.declared.mark.MarkedByte.{MarkedByte}
use Rattle.clause_reader.specs.inner.Classes.{in_class}
use Rattle.clause_reader.proofs.ScanLemmas.{RunsTo}
use Rattle.clause_reader.proofs.marks.run_end.Given as goal

abbrev pub invariant-loop-end : goal.invariant-loop-end
invariant-loop-end l = RunsTo MarkedByte (in_class l.class) l.marks l.end

abbrev pub decreases-loop-end : goal.decreases-loop-end
decreases-loop-end l = length l.marks - l.end
