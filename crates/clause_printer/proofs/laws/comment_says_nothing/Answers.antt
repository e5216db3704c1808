use Rattle.clause_printer.proofs.PrintedLines.{commented_line}
use Rattle.clause_printer.proofs.SpelledFits.{spelled_fits}
use Rattle.clause_printer.proofs.laws.comment_says_nothing.Goals as goal

pub returns : goal.returns
returns c kind first name spelled not_raw text = commented_line kind first c.args.clause.now name (spelled_fits kind first c.args.clause.now spelled) not_raw text
