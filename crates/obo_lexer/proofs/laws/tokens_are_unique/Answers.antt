use Rattle.obo_lexer.proofs.TokenLemmas.{cover_is_unique}
use Rattle.obo_lexer.proofs.laws.tokens_are_unique.Goals as goal

pub returns : goal.returns
returns c = cover_is_unique c.args.line.now
