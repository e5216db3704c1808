use Rattle.obo_lexer.proofs.WrittenLines.{written_lines_are_read}
use Rattle.obo_lexer.proofs.laws.written_lines_are_read.Goals as goal

pub returns : goal.returns
returns c = written_lines_are_read
