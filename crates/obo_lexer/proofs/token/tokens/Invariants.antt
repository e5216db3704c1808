use Rattle.std.proofs.Common.{◌-◌, ◌≤◌, ◌++◌, List, length}
use Rattle.obo_lexer.specs.declared.token.Token.{Token}
use Rattle.obo_lexer.specs.Tokens.{Covers}
use Rattle.obo_lexer.proofs.token.tokens.Given as goal

-- what covers the rest of the line, behind the tokens so far, covers the line
abbrev pub invariant-loop-place : goal.invariant-loop-place
invariant-loop-place l = record {
  within : l.place ≤ length l.bytes;
  covers : (later : List Token) → Covers l.bytes l.place later → Covers l.bytes 0 (l.tokens.items ++ later);
}

abbrev pub decreases-loop-place : goal.decreases-loop-place
decreases-loop-place l = length l.bytes - l.place
