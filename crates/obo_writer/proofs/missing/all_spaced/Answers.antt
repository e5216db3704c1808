use Rattle.std.proofs.Common.{map}
use Rattle.obo_frames.specs.Framed.{unlined}
use Rattle.obo_notes.specs.Context.{writing_in}
use Rattle.obo_writer.specs.inner.Missing.{clauses_spaced}
use Rattle.obo_writer.proofs.MissingLemmas.{spaced_more}
use Rattle.obo_writer.proofs.missing.all_spaced.Goals as goal

pub loop-name-preserved : goal.loop-name-preserved
loop-name-preserved c =
    spaced_more (clauses_spaced (writing_in c.args.place.now) c.args.declared.now c.args.space.now) c.args.names.now c.loop-name.name-index c.name-item.result (map unlined c.loop-name.placed.items) (map unlined c.push_spaced.new.placed.items) c.loop-name-test.true c.name-item.is c.loop-name.invariant c.in_ok-push_spaced.ensures
