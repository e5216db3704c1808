use Rattle.obo_notes.specs.Context.{reading_in, writing_in}
use Rattle.obo_notes.proofs.ContextLemmas.{Agree-in}
use Rattle.obo_statements.proofs.GroupOrder.{group_in_key_order}
use Rattle.obo_statements.proofs.laws.groups_are_in_order.Goals as goal

pub returns : goal.returns
returns c = λ x group one clauses is. group_in_key_order (reading_in c.args.space.now) (writing_in c.args.space.now) (Agree-in c.args.space.now) x group one clauses is
