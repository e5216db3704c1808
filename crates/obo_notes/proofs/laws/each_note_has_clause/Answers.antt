use Rattle.obo_notes.specs.Context.{reading_in, writing_in}
use Rattle.obo_notes.proofs.ContextLemmas.{Agree-in}
use Rattle.obo_notes.proofs.NoteHasClause as law
use Rattle.obo_notes.proofs.laws.each_note_has_clause.Goals as goal

pub returns : goal.returns
returns c = law.each_note_has_clause (reading_in c.args.space.now) (writing_in c.args.space.now) (Agree-in c.args.space.now)
