use Rattle.std.proofs.Common.{List, ℕ, sym, subst}
use Rattle.obo_clause.specs.Spelling.{Spells}
use Rattle.obo_clause.proofs.AnswerLemmas.{spells-one-clause}
use Rattle.clause_printer.specs.Printing.{clause_text}
use Rattle.clause_printer.proofs.PrintedLines.{printed_line}
use Rattle.clause_printer.proofs.SpelledFits.{spelled_fits}
use Rattle.clause_printer.proofs.laws.clauses_are_printed_apart.Goals as goal

pub returns : goal.returns
returns c kind first other one two same =
    let clause = c.args.clause.now in
    spells-one-clause kind first (clause_text clause) clause other
    (printed_line kind first clause (spelled_fits kind first clause one)).spells
    (subst (λ (l : List ℕ). Spells kind first l other) (sym same) (printed_line kind first other (spelled_fits kind first other two)).spells)
