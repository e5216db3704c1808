use Rattle.obo_notes.specs.Context.{reading_in, writing_in}
use Rattle.obo_notes.proofs.ContextLemmas.{Agree-in}
use Rattle.obo_statements.proofs.SpelledFits as law
use Rattle.obo_statements.proofs.laws.spelled_groups_fit.Goals as goal

pub returns : goal.returns
returns c = λ x group one clauses clause is here. law.spelled_group_fits (reading_in c.args.space.now) (writing_in c.args.space.now) (Agree-in c.args.space.now) x group one clauses is clause here
