use Rattle.obo_notes.specs.Context.{reading_in, writing_in}
use Rattle.obo_notes.proofs.ContextLemmas.{Agree-in}
use Rattle.obo_notes.proofs.NoteLaws as law
use Rattle.obo_notes.proofs.laws.note_reads_back.Goals as goal

pub returns : goal.returns
returns c = law.note_reads_back (reading_in c.args.space.now) (writing_in c.args.space.now) (Agree-in c.args.space.now)
