-- The names so far are those of the notes so far.
use Rattle.std.proofs.Common.{◌≡◌, map, take}
use Rattle.import_merge.specs.declared.merged.FileNote.{FileNote}
use Rattle.release_chain.proofs.inputs.names_of.Given as goal

abbrev pub invariant-loop-note : goal.invariant-loop-note
invariant-loop-note l = l.names.items ≡ map (λ (note : FileNote). note.name) (take l.note-index l.notes)
