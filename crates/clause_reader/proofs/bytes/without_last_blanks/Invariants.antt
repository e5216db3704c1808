use Rattle.std.proofs.Common.{ℕ}
use Rattle.obo_lexer.specs.Tokens.{is_blank}
use Rattle.clause_reader.proofs.ScanLemmas.{TrimsFrom}
use Rattle.clause_reader.proofs.bytes.without_last_blanks.Given as goal

abbrev pub invariant-loop-end : goal.invariant-loop-end
invariant-loop-end l = TrimsFrom ℕ is_blank l.bytes l.end

abbrev pub decreases-loop-end : goal.decreases-loop-end
decreases-loop-end l = l.end
