use Rattle.obo_frames.specs.Feeding.{Midway}
use Rattle.obo_frames.proofs.ReadingLemmas.{part_read, under_way_goes_on}
use Rattle.obo_frames.proofs.reading.read_part.Goals as goal

pub invariant_of-result : goal.invariant_of-result
invariant_of-result c =
    let midway : Midway = record { lines = c.reading.inside.lines; so_far = c.reading.inside.so_far } in
    under_way_goes_on midway _ c.args.part.now c.reading.invariant
    (part_read midway c.args.part.now c.feed.new.self c.read_waiting.new.lines c.in_ok-so_far.so_far c.in_ok-feed.ensures.ok c.in_ok-so_far.ensures.read c.in_ok-so_far.ensures.emptied)
