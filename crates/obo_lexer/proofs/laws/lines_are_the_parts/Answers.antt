use Rattle.obo_lexer.proofs.LawLemmas.{lines_are_only, lines_are_written}
use Rattle.obo_lexer.proofs.laws.lines_are_the_parts.Goals as goal

pub returns-clause-written : goal.returns-clause-written
returns-clause-written c = lines_are_written c.args.bytes.now

pub returns-clause-only : goal.returns-clause-only
returns-clause-only c = lines_are_only c.args.bytes.now
