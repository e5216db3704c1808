use Rattle.obo_notes.specs.Context.{writing_in}
use Rattle.obo_notes.proofs.PrintedOrder.{spelled_note_is_in_order}
use Rattle.obo_notes.proofs.laws.spelled_notes_are_in_order.Goals as goal

pub returns : goal.returns
returns c = spelled_note_is_in_order (writing_in c.args.space.now)
