use Rattle.obo_notes.specs.Context.{reading_in, writing_in}
use Rattle.obo_notes.proofs.ContextLemmas.{Agree-in}
use Rattle.obo_notes.proofs.NoteFits.{spelled_note_fits}
use Rattle.obo_notes.proofs.laws.spelled_notes_fit.Goals as goal

pub returns : goal.returns
returns c = spelled_note_fits (reading_in c.args.space.now) (writing_in c.args.space.now) (Agree-in c.args.space.now)
