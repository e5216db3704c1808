use Rattle.std.proofs.Common.{rules}
use Rattle.clause_printer.proofs.PrintedLines.{printed_line}
use Rattle.clause_printer.proofs.SpelledFits.{spelled_fits}
use Rattle.clause_printer.specs.Printing.{clause_text}
use Rattle.clause_printer.proofs.printer.print_clause.Goals as goal

pub returns-clause-line : goal.returns-clause-line
returns-clause-line c = record {
  line = clause_text c.args.clause.now;
  appended = search rules;
  spells = λ kind first spelled. printed_line kind first c.args.clause.now (spelled_fits kind first c.args.clause.now spelled);
}
