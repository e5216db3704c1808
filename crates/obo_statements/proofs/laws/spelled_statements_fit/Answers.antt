use Rattle.obo_notes.specs.Context.{reading_in, writing_in}
use Rattle.obo_notes.proofs.ContextLemmas.{Agree-in}
use Rattle.obo_statements.proofs.SpelledFits as law
use Rattle.obo_statements.proofs.laws.spelled_statements_fit.Goals as goal

pub returns : goal.returns
returns c = λ kind x one clause is. law.spelled_statement_fits (reading_in c.args.space.now) (writing_in c.args.space.now) (Agree-in c.args.space.now) x kind one clause is
