use Rattle.clause_printer.proofs.PrintedLines.{fit_is_spelled}
use Rattle.clause_printer.proofs.SpelledFits.{spelled_fits}
use Rattle.clause_printer.proofs.laws.spelled_clauses_fit.Goals as goal

pub returns : goal.returns
returns c kind first = (spelled_fits kind first c.args.clause.now, fit_is_spelled kind first c.args.clause.now)
