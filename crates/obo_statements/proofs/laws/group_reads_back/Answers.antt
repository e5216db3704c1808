use Rattle.obo_notes.specs.Context.{reading_in, writing_in}
use Rattle.obo_notes.proofs.ContextLemmas.{Agree-in}
use Rattle.obo_statements.proofs.GroupsBack as law
use Rattle.obo_statements.proofs.laws.group_reads_back.Goals as goal

pub returns : goal.returns
returns c = λ x group one clauses others proper rises is same. (law.group_reads_back (reading_in c.args.space.now) (writing_in c.args.space.now) (Agree-in c.args.space.now) group x one clauses others proper rises is same).0
