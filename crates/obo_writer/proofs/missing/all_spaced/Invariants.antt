-- The clauses so far are those of the names so far.
use Rattle.std.proofs.Common.{◌≡◌, map, take}
use Rattle.obo_frames.specs.Framed.{unlined}
use Rattle.obo_notes.specs.Context.{writing_in}
use Rattle.obo_writer.specs.inner.Missing.{all_spaced}
use Rattle.obo_writer.proofs.missing.all_spaced.Given as goal

abbrev pub invariant-loop-name : goal.invariant-loop-name
invariant-loop-name l = map unlined l.placed.items ≡ all_spaced (writing_in l.place) l.declared l.space (take l.name-index l.names)
