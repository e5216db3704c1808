use Rattle.direct_above.proofs.MarkingLemmas.{going_skip, going_on}
use Rattle.direct_above.proofs.marks.mark_above_uncovered.Goals as goal

pub returns-then-is_marked : goal.returns-then-is_marked
returns-then-is_marked c = λ k xs old covers_old g. going_skip c.args.rows.now c.requires.order c.args.stamp k c.args.middle xs old covers_old c.args.seen.now c.args.covered.now (c.is_marked.ensures.0 c.if-is_marked.true) g

pub returns : goal.returns
returns c = λ k xs old covers_old g. going_on c.args.rows.now c.requires.order c.args.stamp k c.args.middle xs old covers_old c.args.seen.now c.args.covered.now c.mark_above.new.seen c.mark_above.new.covered c.mark_above.ensures g
