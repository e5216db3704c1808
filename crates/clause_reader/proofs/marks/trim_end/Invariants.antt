use Rattle.obo_clause.specs.declared.mark.MarkedByte.{MarkedByte}
use Rattle.obo_clause.specs.Vocabulary.{is_space}
use Rattle.clause_reader.proofs.ScanLemmas.{TrimsFrom}
use Rattle.clause_reader.proofs.marks.trim_end.Given as goal

abbrev pub invariant-loop-end : goal.invariant-loop-end
invariant-loop-end l = TrimsFrom MarkedByte is_space l.marks l.end

abbrev pub decreases-loop-end : goal.decreases-loop-end
decreases-loop-end l = l.end
