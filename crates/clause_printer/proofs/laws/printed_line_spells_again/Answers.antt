use Rattle.clause_printer.proofs.PrintedLines.{printed_line}
use Rattle.clause_printer.proofs.SpelledFits.{spelled_fits}
use Rattle.clause_printer.proofs.laws.printed_line_spells_again.Goals as goal

pub returns : goal.returns
returns c kind first spelled = printed_line kind first c.args.clause.now (spelled_fits kind first c.args.clause.now spelled)
