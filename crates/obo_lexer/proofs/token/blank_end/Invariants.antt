use Rattle.std.proofs.Common.{ℕ, ◌-◌, ◌<◌, ◌≤◌, IsTrue, length}
use Rattle.obo_lexer.specs.Tokens.{blank_at}
use Rattle.obo_lexer.proofs.token.blank_end.Given as goal

abbrev pub invariant-loop-end : goal.invariant-loop-end
invariant-loop-end l = record {
  from : l.place ≤ l.end;
  within : l.end ≤ length l.line;
  each : (place : ℕ) → l.place ≤ place → place < l.end → IsTrue (blank_at l.line place);
}

abbrev pub decreases-loop-end : goal.decreases-loop-end
decreases-loop-end l = length l.line - l.end
