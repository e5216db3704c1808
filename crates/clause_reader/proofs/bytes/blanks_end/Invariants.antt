use Rattle.std.proofs.Common.{length, ◌-◌, ℕ}
use Rattle.obo_lexer.specs.Tokens.{is_blank}
use Rattle.clause_reader.proofs.ScanLemmas.{RunsTo}
use Rattle.clause_reader.proofs.bytes.blanks_end.Given as goal

abbrev pub invariant-loop-end : goal.invariant-loop-end
invariant-loop-end l = RunsTo ℕ is_blank l.bytes l.end

abbrev pub decreases-loop-end : goal.decreases-loop-end
decreases-loop-end l = length l.bytes - l.end
