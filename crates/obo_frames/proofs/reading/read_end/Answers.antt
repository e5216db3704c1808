use Rattle.std.proofs.Common.{ap, sym, ◌∙◌}
use Rattle.obo_lexer.specs.Feeding as lines
use Rattle.obo_frames.specs.Feeding as feeding
use Rattle.obo_frames.proofs.ReadingLemmas.{answer_is, sound_at_end}
use Rattle.obo_frames.proofs.reading.read_end.Goals as goal

pub judged-requires : goal.judged-requires
judged-requires c none =
    let read = ap (λ (f : lines.Feeder). feeding.read_items c.reading.inside.so_far f.lines.waiting) (sym c.in_ok-finish.ensures.ok) ∙ answer_is _ _ c.in_ok-draft.ensures.read in
    sound_at_end (record { lines = c.reading.inside.lines; so_far = c.reading.inside.so_far }) c.in_ok-draft.field-0 c.reading.invariant read none
