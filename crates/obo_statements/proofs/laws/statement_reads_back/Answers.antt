use Rattle.obo_notes.specs.Context.{reading_in, writing_in}
use Rattle.obo_notes.proofs.ContextLemmas.{Agree-in}
use Rattle.obo_statements.proofs.StatementsBack as law
use Rattle.obo_statements.proofs.laws.statement_reads_back.Goals as goal

pub returns : goal.returns
returns c = λ kind x one clause proper rises is. (law.statement_reads_back (reading_in c.args.space.now) (writing_in c.args.space.now) (Agree-in c.args.space.now) kind x one clause proper rises is).0
