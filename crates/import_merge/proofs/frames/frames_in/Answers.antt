use Rattle.import_merge.proofs.FrameLemmas.{frames_next}
use Rattle.import_merge.proofs.frames.frames_in.Goals as goal

pub loop-one-preserved : goal.loop-one-preserved
loop-one-preserved c =
    frames_next c.args.space.now c.args.placed.now c.loop-one.one-index c.one-item.result c.loop-one.frames.items c.add_frame.new.frames.items c.loop-one-test.true c.one-item.is c.loop-one.invariant c.in_ok-add_frame.ensures
