-- The frames so far are those of the clauses so far.
use Rattle.std.proofs.Common.{◌≡◌, map, take}
use Rattle.import_merge.specs.inner.Texts.{text_of}
use Rattle.import_merge.proofs.FrameLemmas.{keys_in}
use Rattle.import_merge.proofs.frames.frames_in.Given as goal

abbrev pub invariant-loop-one : goal.invariant-loop-one
invariant-loop-one l = map text_of l.frames.items ≡ keys_in l.space (take l.one-index l.placed)
