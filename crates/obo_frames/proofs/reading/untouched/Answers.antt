use Rattle.std.proofs.Common.{subst, sym}
use Rattle.obo_frames.specs.inner.Reading.{IsUnderWay}
use Rattle.obo_frames.proofs.ReadingLemmas.{under_way_begins}
use Rattle.obo_frames.proofs.reading.untouched.Goals as goal

pub invariant_of-result : goal.invariant_of-result
invariant_of-result c =
    subst IsUnderWay (λ i. record { lines = sym c.in_ok-lines.ensures i; so_far = sym c.nothing_read-so_far.ensures i }) (under_way_begins c.args.limit)
